-- The format of a kind of load: what its loads are as counts and as bytes.
use Rattle.std.specs.Prelude.{◌≡◌, ℕ, ◌+◌, ◌-◌, ◌^◌, ◌<◌, min, true, cond, List, ◌++◌, length, take, drop, replicate, Some, None, Ok, Err, Option, Result, nat_le, nat_lt}
use Rattle.std.specs.List.{AllByRecursion}
use Rattle.loads.specs.declared.kind.LoadFault.{LoadFault}
use Rattle.loads.specs.declared.kind.LoadFault.TheVariants.{Short, NoImage}
use Rattle.loads.specs.Counts.{within}
use Rattle.loads.specs.Digits.{digits, number, level, to_bytes, from_bytes}

pub record Format : Type 0 where
  -- the number that a profile of this kind begins with
  pub mark : ℕ
  -- the greatest count of each resource
  pub ceilings : List ℕ
  -- how many bytes each image has
  pub size : ℕ
  -- the bytes that stand for these counts
  pub image : List ℕ → List ℕ
  -- the counts that so many bytes stand for, if they are an image
  pub decode : List ℕ → Option (List ℕ)

-- one count for each resource, none above its ceiling
abbrev pub Counted : Format → List ℕ → Type 0
Counted f cs = within cs f.ceilings ≡ true

abbrev pub Bytes : List ℕ → Type 0
Bytes bs = AllByRecursion (λ b. b < 256) bs

-- a number as 64 bits can tell it: the largest one where it is more
abbrev pub told : ℕ → ℕ
told n = min n (2 ^ 64 - 1)

-- the counts of the empty load
abbrev pub zeros : Format → List ℕ
zeros f = replicate (length f.ceilings) 0

-- what a format owes: marks from 1 to 127; images of one length of at least 1; an image decodes to its counts, and
-- what decodes is the image of its counts
pub record Lawful (f : Format) : Type 0 where
  pub marked : (0 < f.mark) × (f.mark < 128)
  pub some_byte : 0 < f.size
  pub sized : (cs : List ℕ) → Counted f cs → length (f.image cs) ≡ f.size
  pub bytes : (cs : List ℕ) → Counted f cs → Bytes (f.image cs)
  pub decodes : (cs : List ℕ) → Counted f cs → f.decode (f.image cs) ≡ Some cs
  pub counted : (bs cs : List ℕ) → length bs ≡ f.size → Bytes bs → f.decode bs ≡ Some cs → Counted f cs
  pub encodes : (bs cs : List ℕ) → length bs ≡ f.size → Bytes bs → f.decode bs ≡ Some cs → f.image cs ≡ bs

-- ---- the formats of the kinds

-- n counts of at most `ceiling` each, as the digits of a number in base ceiling + 1, the first the lowest; the number in
-- so many bytes
abbrev pub digits_format : ℕ → ℕ → ℕ → ℕ → Format
digits_format mark ceiling n bytes = record {
  mark = mark;
  ceilings = level n ceiling;
  size = bytes;
  image = λ cs. to_bytes bytes (number (ceiling + 1) cs);
  decode = λ bs. cond (nat_lt (from_bytes bs) ((ceiling + 1) ^ n)) (Some (digits (ceiling + 1) n (from_bytes bs))) None;
}

-- one count of at most 1,000,000 in 4 bytes
abbrev pub airtime_format : Format
airtime_format = digits_format 1 1000000 1 4

-- 64 counts of at most 1, the bits of a word, in 8 bytes
abbrev pub crews_format : Format
crews_format = digits_format 2 1 64 8

-- both, or none where one is missing
abbrev pub both : Option (List ℕ) → Option (List ℕ) → Option (List ℕ)
both None q = None
both (Some p) None = None
both (Some p) (Some q) = Some (p ++ q)

-- the first kind's resources and then the second's, their images joined
abbrev pub pair_format : Format → Format → Format
pair_format f g = record {
  mark = 3;
  ceilings = f.ceilings ++ g.ceilings;
  size = f.size + g.size;
  image = λ cs. f.image (take (length f.ceilings) cs) ++ g.image (drop (length f.ceilings) cs);
  decode = λ bs. both (f.decode (take f.size bs)) (g.decode (drop f.size bs));
}

-- ---- images at the front of bytes

-- what a buffer holds once bytes were put at its front: they and its old rest, or all as it was where it is too short
abbrev pub put_front : List ℕ → List ℕ → List ℕ
put_front bs buffer = cond (nat_le (length bs) (length buffer)) (bs ++ drop (length bs) buffer) buffer

-- the counts, or the fault where there are none
abbrev pub or_no_image : Option (List ℕ) → Result (List ℕ) LoadFault
or_no_image None = Err NoImage
or_no_image (Some cs) = Ok cs

-- the counts of the image at the front of bytes
abbrev pub read_front : Format → List ℕ → Result (List ℕ) LoadFault
read_front f bs = cond (nat_le f.size (length bs)) (or_no_image (f.decode (take f.size bs))) (Err Short)
