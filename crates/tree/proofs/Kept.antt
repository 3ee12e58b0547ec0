-- Rows in which the entry of a key is taken out, or gets another place.
use Rattle.std.proofs.Common.{◌≡◌, ℕ, ◌<◌, ◌⊎◌, List, [], ◌∷◌, ◌++◌, length, Some, None, Option, unwrap_or, sym, subst, inl, inr}
use Rattle.std.proofs.lemmas.Cmp.{tied_back}
use Rattle.std.specs.Cmp.{IsTotalOrder}
use Rattle.std.specs.declared.cmp.Ordering.TheVariants.{Equal}
use Rattle.tree.specs.declared.node.Node.{Node}
use Rattle.tree.specs.Changes.{Unused, reseated}
use Rattle.tree.specs.Lists.{without}
use Rattle.tree.specs.Orders.{Order, at_key, Rising}
use Rattle.tree.specs.Shape.{by_entry, In, Distinct}
use Rattle.tree.proofs.Ordered.{Found, found_edited, rising_out, rising_swap}
use Rattle.tree.proofs.Slots.{parts, in_parts, in_out, in_drop, distinct_out, distinct_in}

-- a slot that is given is not in use in a part of the row either
pub unused_part : {E Z : Type 0} (xs : List (Node E Z)) (to : Option ℕ) (ps qs : List (ℕ × E)) → ((k : ℕ) → In k qs → In k ps) → Unused xs to ps → Unused xs to qs
unused_part xs (Some s) ps qs inc u = (u.0, λ i. u.1 (inc s i))
unused_part xs None ps qs inc u = tt

pub seat_within : {E Z : Type 0} (xs : List (Node E Z)) (to : Option ℕ) (ps : List (ℕ × E)) (old : ℕ) → Unused xs to ps → old < length xs → unwrap_or to old < length xs
seat_within xs (Some s) ps old u h = u.0
seat_within xs None ps old u h = h

pub seat_new : {E Z : Type 0} (xs : List (Node E Z)) (to : Option ℕ) (ps qs : List (ℕ × E)) (old : ℕ) → Unused xs to ps → ((k : ℕ) → In k qs → In k ps) → (In old qs → ⊥) → In (unwrap_or to old) qs → ⊥
seat_new xs (Some s) ps qs old u inc n h = u.1 (inc s h)
seat_new xs None ps qs old u inc n h = n h

module _ {E K : Type 0} (O : Order E K) (L : IsTotalOrder O.cmp) (k : K) (ps : List (ℕ × E)) (p : ℕ × E) (once : Distinct ps) (F : Found (by_entry O) L k ps p) where
  pub out_row : without (at_key (by_entry O) k) ps ≡ F.before ++ F.after
  out_row = found_edited (by_entry O) L k ps p (λ q. []) F

  cut_once : Distinct (F.before ++ (p ∷ F.after))
  cut_once = subst Distinct F.is once

  pub out_in : (j : ℕ) → In j (F.before ++ F.after) → In j ps
  out_in j i = subst (In j) (sym F.is) (in_out j F.before p F.after i)

  pub out_new : In p.0 (F.before ++ F.after) → ⊥
  out_new i = let c = parts F.before p F.after cut_once in elim (in_parts p.0 F.before F.after i) [ inl a ↦ c.new_left a | inr b ↦ c.new_right b ]

  pub out_once : Distinct (F.before ++ F.after)
  out_once = distinct_out F.before p F.after cut_once

  pub out_rising : Rising (by_entry O) ps → Rising (by_entry O) (F.before ++ F.after)
  out_rising r = rising_out (by_entry O) L F.before p F.after (subst (Rising (by_entry O)) F.is r)

  pub left_over : (j : ℕ) → In j ps → (j ≡ p.0) ⊎ In j (F.before ++ F.after)
  left_over j i = in_drop j F.before p F.after (subst (In j) F.is i)

  pub swap_once : {Z : Type 0} (xs : List (Node E Z)) (to : Option ℕ) (e : E) → Unused xs to ps → Distinct (F.before ++ ((unwrap_or to p.0, e) ∷ F.after))
  swap_once xs to e u = distinct_in F.before (unwrap_or to p.0, e) F.after out_once (seat_new xs to ps (F.before ++ F.after) p.0 u out_in out_new)

  pub swap_rising : (s : ℕ) (e : E) → O.key e ≡ k → Rising (by_entry O) ps → Rising (by_entry O) (F.before ++ ((s, e) ∷ F.after))
  swap_rising s e q r = rising_swap (by_entry O) L F.before p (s, e) F.after (subst (λ (a : K). O.cmp (O.key p.1) a ≡ Equal) (sym q) (tied_back L k (O.key p.1) F.here)) (subst (Rising (by_entry O)) F.is r)

pub swap_row : {E K : Type 0} (O : Order E K) (L : IsTotalOrder O.cmp) (ps : List (ℕ × E)) (p : ℕ × E) (to : Option ℕ) (e : E) (F : Found (by_entry O) L (O.key e) ps p) → reseated O to e ps ≡ F.before ++ ((unwrap_or to p.0, e) ∷ F.after)
swap_row O L ps p to e F = found_edited (by_entry O) L (O.key e) ps p (λ q. (unwrap_or to q.0, e) ∷ []) F
