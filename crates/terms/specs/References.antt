-- References in plain numbers, and their order.
use Rattle.std.specs.Prelude.{◌≡◌, ℕ, Bool, true, false, cond, ◌&&◌, ◌||◌, Ok, Err, Decides, Result, ◌==◌, nat_le, nat_lt}
use Rattle.std.specs.declared.cmp.Ordering.TheVariants.{Less, Equal, Greater}
use Rattle.std.specs.declared.cmp.Ordering.{Ordering}
use Rattle.std.specs.Ordering.{ordering_then, nat_cmp}
use Rattle.terms.specs.declared.reference.Reference.{Reference}
use Rattle.terms.specs.declared.refusal.Refusal.{Refusal}
use Rattle.terms.specs.declared.refusal.Refusal.TheVariants.{BadReference}

-- a reference in plain numbers: an institute, and the serial that it gave to one booking
pub record Ref : Type 0 where
  pub institute : ℕ
  pub serial : ℕ

-- the plain form of a reference
abbrev pub ref_of : Reference → Ref
ref_of r = record { institute = r.institute; serial = r.serial }

-- an institute is 1 to 999, and a serial 1 to 9,999,999
abbrev pub lawful_ref : ℕ → ℕ → Bool
lawful_ref institute serial = (nat_le 1 institute && nat_le institute 999) && (nat_le 1 serial && nat_le serial 9999999)

-- what making a reference of an institute and a serial answers
abbrev pub ref_made : ℕ → ℕ → Result Ref Refusal
ref_made institute serial = cond (lawful_ref institute serial) (Ok (record { institute = institute; serial = serial })) (Err BadReference)

-- by institute, and within an institute by serial
abbrev pub ref_order : Ref → Ref → Ordering
ref_order a b = ordering_then (nat_cmp a.institute b.institute) (nat_cmp a.serial b.serial)

-- strictly before: a lower institute, or the same one and a lower serial
abbrev pub before : Ref → Ref → Bool
before a b = nat_lt a.institute b.institute || (a.institute == b.institute && nat_lt a.serial b.serial)

-- the same institute and the same serial
abbrev pub same_ref : Ref → Ref → Bool
same_ref a b = a.institute == b.institute && a.serial == b.serial

-- `before` is a strict total order, `same_ref` decides equality, and `ref_order` agrees with both
pub record RefOrderLaw : Type 0 where
  pub irreflexive : (a : Ref) → before a a ≡ false
  pub transitive : (a b c : Ref) → before a b ≡ true → before b c ≡ true → before a c ≡ true
  pub total : (a b : Ref) → before a b ≡ false → before b a ≡ false → a ≡ b
  pub same : (a b : Ref) → Decides (same_ref a b) (a ≡ b)
  pub less : (a b : Ref) → Decides (before a b) (ref_order a b ≡ Less)
  pub equal : (a b : Ref) → Decides (same_ref a b) (ref_order a b ≡ Equal)
  pub greater : (a b : Ref) → Decides (before b a) (ref_order a b ≡ Greater)

-- every reference is lawful, and two with one plain form are equal, which `same_ref` decides
pub record ReferenceLaw : Type 0 where
  pub lawful : (a : Reference) → lawful_ref a.institute a.serial ≡ true
  pub told : (a b : Reference) → ref_of a ≡ ref_of b → a ≡ b
  pub same : (a b : Reference) → Decides (same_ref (ref_of a) (ref_of b)) (a ≡ b)
