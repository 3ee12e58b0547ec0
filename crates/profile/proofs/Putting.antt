-- Bytes put into a buffer part by part, and at a place.
use Rattle.std.proofs.Common.{◌≡◌, ℕ, suc, ◌+◌, ◌<◌, ◌≤◌, List, ◌∷◌, ◌++◌, length, take, drop, sym, refl, ap, ◌∙◌, ap₂, inl, inr, arith, length-append, length-drop, length-take}
use Rattle.std.proofs.lemmas.List.{drop-drop, append_assoc, take_at, drop_at}
use Rattle.std.proofs.lemmas.Bool.{cases_lt, le-leb, lt-leb, cond-true, cond-false}
use Rattle.loads.specs.Digits.{to_bytes}
use Rattle.loads.specs.Formats.{put_front}
use Rattle.loads.specs.Places.{length_to_bytes}
use Rattle.loads.proofs.Fronts.{put_long, put_short}
use Rattle.profile.specs.Wire.{put_at}

module _ (at : ℕ) (bs buffer : List ℕ) where
  pub put_at_long : at + length bs ≤ length buffer → put_at at bs buffer ≡ take at buffer ++ (bs ++ drop (at + length bs) buffer)
  put_at_long h = cond-true _ _ _ (le-leb (at + length bs) (length buffer) h)

  pub put_at_short : length buffer < at + length bs → put_at at bs buffer ≡ buffer
  put_at_short h = cond-false _ _ _ (lt-leb (at + length bs) (length buffer) h)

  -- put at the front of what stands behind the place
  pub put_behind : (front rest : List ℕ) → buffer ≡ front ++ rest → length front ≡ at → front ++ put_front bs rest ≡ put_at at bs buffer
  put_behind front rest e n =
      let l : length buffer ≡ at + length rest = ap length e ∙ (length-append front rest ∙ omega arith) in
      elim (cases_lt (length rest) (length bs)) [
        | inl h ↦ ap (λ r. front ++ r) (sym (put_short bs rest h)) ∙ (sym e ∙ sym (put_at_short (omega arith)))
        | inr h ↦
            let t : take at buffer ≡ front = ap (take at) e ∙ take_at front rest at n in
            let d : drop (at + length bs) buffer ≡ drop (length bs) rest
            = sym (drop-drop (length bs) at buffer) ∙ ap (λ r. drop (length bs) r) (ap (drop at) e ∙ drop_at front rest at n) in
            ap (λ r. front ++ r) (put_long bs rest (length bs) refl h) ∙ (sym (ap₂ (λ p q. p ++ (bs ++ q)) t d) ∙ sym (put_at_long (omega arith)))
      ]

-- ---- one after another

-- more bytes at the place after those that were put
pub put_more : (at : ℕ) (xs ys buffer middle after : List ℕ) (next : ℕ) → middle ≡ put_at at xs buffer → next ≡ at + length xs → at + (length xs + length ys) ≤ length buffer
    → after ≡ put_at next ys middle → after ≡ put_at at (xs ++ ys) buffer
put_more at xs ys buffer middle after next e n h a =
    let l = length-append xs ys in
    let m : middle ≡ take at buffer ++ (xs ++ drop (at + length xs) buffer) = e ∙ put_at_long at xs buffer (omega arith) in
    let t : length (take at buffer) ≡ at = length-take at buffer ∙ omega arith in
    let f : (take at buffer ++ xs) ++ drop (at + length xs) buffer ≡ middle = append_assoc (take at buffer) xs (drop (at + length xs) buffer) ∙ sym m in
    let g : length (take at buffer ++ xs) ≡ next = length-append (take at buffer) xs ∙ omega arith in
    let k : length middle ≡ length buffer = ap length (sym f) ∙ (length-append (take at buffer ++ xs) (drop (at + length xs) buffer) ∙ (rw length-drop (omega arith))) in
    let front : take next middle ≡ take at buffer ++ xs = ap (take next) (sym f) ∙ take_at (take at buffer ++ xs) (drop (at + length xs) buffer) next g in
    let back : drop (next + length ys) middle ≡ drop (at + length (xs ++ ys)) buffer
    = sym (drop-drop (length ys) next middle)
    ∙ (ap (λ bs. drop (length ys) bs) (ap (drop next) (sym f) ∙ drop_at (take at buffer ++ xs) (drop (at + length xs) buffer) next g)
    ∙ (drop-drop (length ys) (at + length xs) buffer ∙ ap (λ i. drop i buffer) (omega arith))) in
    a
    ∙ (put_at_long next ys middle (omega arith)
    ∙ (ap₂ (λ p q. p ++ (ys ++ q)) front back
    ∙ (append_assoc (take at buffer) xs (ys ++ drop (at + length (xs ++ ys)) buffer)
    ∙ (ap (λ p. take at buffer ++ p) (sym (append_assoc xs ys (drop (at + length (xs ++ ys)) buffer)))
    ∙ sym (put_at_long at (xs ++ ys) buffer (omega arith))))))

-- bytes at the front, before those that were put after them
pub front_before : (xs ys buffer middle after : List ℕ) (n : ℕ) → length xs ≡ n → n + length ys ≤ length buffer → middle ≡ put_at n ys buffer → after ≡ put_front xs middle
    → after ≡ put_front (xs ++ ys) buffer
front_before xs ys buffer middle after n e h m a =
    let rest = ys ++ drop (n + length ys) buffer in
    let is : middle ≡ take n buffer ++ rest = m ∙ put_at_long n ys buffer h in
    let t : length (take n buffer) ≡ n = length-take n buffer ∙ omega arith in
    let l : n ≤ length middle = omega (arith, ap length is, length-append (take n buffer) rest) in
    a
    ∙ (put_long xs middle n e l
    ∙ (ap (λ bs. xs ++ bs) (ap (drop n) is ∙ drop_at (take n buffer) rest n t)
    ∙ (sym (append_assoc xs ys (drop (n + length ys) buffer))
    ∙ sym (put_long (xs ++ ys) buffer (n + length ys) (length-append xs ys ∙ ap (λ k. k + length ys) e) h))))

-- ---- a first byte, and then two words

module _ (first a b : ℕ) (rest new buffer : List ℕ) (is : buffer ≡ first ∷ rest) (put : new ≡ put_front (to_bytes 4 a ++ to_bytes 4 b) rest) where
  length_words : length (to_bytes 4 a ++ to_bytes 4 b) ≡ 8
  length_words = length-append (to_bytes 4 a) (to_bytes 4 b) ∙ ap₂ ◌+◌ (length_to_bytes 4 a) (length_to_bytes 4 b)

  pub first_kept : length rest < 8 → first ∷ new ≡ buffer
  first_kept h = ap (λ bs. first ∷ bs) (put ∙ sym (put_short (to_bytes 4 a ++ to_bytes 4 b) rest (omega (arith, length_words)))) ∙ sym is

  pub first_put : (x : ℕ) → 8 ≤ length rest → x ∷ new ≡ put_front (x ∷ (to_bytes 4 a ++ to_bytes 4 b)) buffer
  first_put x h =
      ap (λ bs. x ∷ bs) (put ∙ put_long (to_bytes 4 a ++ to_bytes 4 b) rest 8 length_words h)
      ∙ sym (ap (put_front (x ∷ (to_bytes 4 a ++ to_bytes 4 b))) is ∙ put_long (x ∷ (to_bytes 4 a ++ to_bytes 4 b)) (first ∷ rest) 9 (ap suc length_words) (omega arith))
