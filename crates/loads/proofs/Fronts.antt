-- Images at the front of bytes: of a word, and of two kinds joined.
use Rattle.std.proofs.Common.{◌≡◌, ℕ, ◌+◌, ◌^◌, ◌<◌, ◌≤◌, Bool, true, false, cond, ltb, List, [], ◌∷◌, ◌++◌, length, take, drop, Some, None, Ok, Err, Option, Result, sym, refl, ap, ◌∙◌, ap₂, inl, inr, arith, length-append, length-take, length-drop, w32, w64}
use Rattle.std.proofs.lemmas.List.{drop_at, drop-drop, drop_all, append-nil, append_assoc, take-take, drop-take}
use Rattle.std.proofs.lemmas.Bool.{cases_lt, le-leb, lt-leb, cond-true, cond-false}
use Rattle.loads.specs.declared.kind.LoadFault.{LoadFault}
use Rattle.loads.specs.declared.kind.LoadFault.TheVariants.{Short, NoImage}
use Rattle.loads.specs.Digits.{digits, from_bytes}
use Rattle.loads.specs.Formats.{Format, digits_format, pair_format, both, put_front, or_no_image, read_front}
use Rattle.loads.specs.Places.{word_4, word_8}
use Rattle.std.specs.Int.{from_be_bytes}

-- ---- put

pub put_long : (xs buffer : List ℕ) (n : ℕ) → length xs ≡ n → n ≤ length buffer → put_front xs buffer ≡ xs ++ drop n buffer
put_long xs buffer n e h = cond-true _ _ _ (le-leb (length xs) (length buffer) (omega arith)) ∙ ap (λ k. xs ++ drop k buffer) e

pub put_short : (xs buffer : List ℕ) → length buffer < length xs → buffer ≡ put_front xs buffer
put_short xs buffer h = sym (cond-false _ _ _ (lt-leb (length xs) (length buffer) h))

-- an image of all of one part, and one at the front of the next, as both at the front of the whole
pub put_parts : (xs ys front back : List ℕ) → length xs ≡ length front → length ys ≤ length back → put_front xs front ++ put_front ys back ≡ put_front (xs ++ ys) (front ++ back)
put_parts xs ys front back p q =
    let f : put_front xs front ≡ xs = put_long xs front (length front) p (omega arith) ∙ ap (λ zs. xs ++ zs) (drop_all (length front) front (omega arith)) ∙ append-nil xs in
    let b : put_front ys back ≡ ys ++ drop (length ys) back = put_long ys back (length ys) refl q in
    let d : drop (length xs + length ys) (front ++ back) ≡ drop (length ys) back
    = sym (drop-drop (length ys) (length xs) (front ++ back)) ∙ ap (drop (length ys)) (drop_at front back (length xs) (sym p)) in
    ap₂ ◌++◌ f b
    ∙ (sym (append_assoc xs ys (drop (length ys) back))
    ∙ (ap (λ zs. (xs ++ ys) ++ zs) (sym d) ∙ sym (put_long (xs ++ ys) (front ++ back) (length xs + length ys) (length-append xs ys) (rw length-append (omega arith)))))

-- ---- read

pub read_long : (f : Format) (bs : List ℕ) → f.size ≤ length bs → read_front f bs ≡ or_no_image (f.decode (take f.size bs))
read_long f bs h = cond-true _ _ _ (le-leb f.size (length bs) h)

pub read_short : (f : Format) (bs : List ℕ) → length bs < f.size → read_front f bs ≡ Err Short
read_short f bs h = cond-false _ _ _ (lt-leb f.size (length bs) h)

or_cond : (b : Bool) (cs : List ℕ) → or_no_image (cond b (Some cs) None) ≡ cond b (Ok cs) (Err NoImage)
or_cond true cs = refl
or_cond false cs = refl

-- a word at the front, from its number
pub read_word : (mark ceiling n k w : ℕ) (bs : List ℕ) → k ≤ length bs → w ≡ from_bytes (take k bs)
    → cond (ltb w ((ceiling + 1) ^ n)) (Ok (digits (ceiling + 1) n w)) (Err NoImage) ≡ read_front (digits_format mark ceiling n k) bs
read_word mark ceiling n k w bs h e =
    ap (λ v. cond (ltb v ((ceiling + 1) ^ n)) (Ok (digits (ceiling + 1) n v)) (Err NoImage)) e
    ∙ (sym (or_cond (ltb (from_bytes (take k bs)) ((ceiling + 1) ^ n)) (digits (ceiling + 1) n (from_bytes (take k bs))))
    ∙ sym (read_long (digits_format mark ceiling n k) bs h))

-- four bytes as a number, and eight
pub value_4 : (bs : List ℕ) → length bs ≡ 4 → from_be_bytes w32 bs ≡ from_bytes bs
value_4 [] h = absurd (omega arith)
value_4 (a ∷ []) h = absurd (omega arith)
value_4 (a ∷ b ∷ []) h = absurd (omega arith)
value_4 (a ∷ b ∷ c ∷ []) h = absurd (omega arith)
value_4 (a ∷ b ∷ c ∷ d ∷ []) h = word_4 a b c d
value_4 (a ∷ b ∷ c ∷ d ∷ e ∷ bs) h = absurd (omega arith)

pub value_8 : (bs : List ℕ) → length bs ≡ 8 → from_be_bytes w64 bs ≡ from_bytes bs
value_8 [] h = absurd (omega arith)
value_8 (a ∷ []) h = absurd (omega arith)
value_8 (a ∷ b ∷ []) h = absurd (omega arith)
value_8 (a ∷ b ∷ c ∷ []) h = absurd (omega arith)
value_8 (a ∷ b ∷ c ∷ d ∷ []) h = absurd (omega arith)
value_8 (a ∷ b ∷ c ∷ d ∷ e ∷ []) h = absurd (omega arith)
value_8 (a ∷ b ∷ c ∷ d ∷ e ∷ f ∷ []) h = absurd (omega arith)
value_8 (a ∷ b ∷ c ∷ d ∷ e ∷ f ∷ g ∷ []) h = absurd (omega arith)
value_8 (a ∷ b ∷ c ∷ d ∷ e ∷ f ∷ g ∷ i ∷ []) h = word_8 a b c d e f g i
value_8 (a ∷ b ∷ c ∷ d ∷ e ∷ f ∷ g ∷ i ∷ j ∷ bs) h = absurd (omega arith)

-- the answers of two reads; the second's is told first where there is none
abbrev pub both_read : Result (List ℕ) LoadFault → Result (List ℕ) LoadFault → Result (List ℕ) LoadFault
both_read r (Err e) = Err e
both_read (Err e) (Ok ys) = Err e
both_read (Ok xs) (Ok ys) = Ok (xs ++ ys)

or_both : (p q : Option (List ℕ)) → both_read (or_no_image p) (or_no_image q) ≡ or_no_image (both p q)
or_both None None = refl
or_both None (Some ys) = refl
or_both (Some xs) None = refl
or_both (Some xs) (Some ys) = refl

-- bytes that are cut where the second image begins: too short a rest is too short a whole
pub joined_read : (f g : Format) (bs front back : List ℕ) → f.size ≤ length bs → front ≡ take f.size bs → back ≡ drop f.size bs → (r s : Result (List ℕ) LoadFault)
    → r ≡ read_front f front → s ≡ read_front g back → both_read r s ≡ read_front (pair_format f g) bs
joined_read f g bs front back h p q r s e k = elim (cases_lt (length bs) (f.size + g.size)) [
  | inl l ↦
      let short : length back < g.size = rw (q, length-drop) (omega arith) in
      let s' : s ≡ Err Short = k ∙ read_short g back short in
      rw s' (sym (read_short (pair_format f g) bs l))
  | inr l ↦
      let first : r ≡ or_no_image (f.decode (take f.size bs)) = e ∙ (ap (read_front f) p ∙ (read_long f (take f.size bs) (rw length-take (omega arith)) ∙ ap (λ xs. or_no_image (f.decode xs)) (take-take f.size f.size bs (omega arith)))) in
      let second : s ≡ or_no_image (g.decode (take g.size (drop f.size bs))) = k ∙ (ap (read_front g) q ∙ read_long g (drop f.size bs) (rw length-drop (omega arith))) in
      let a : f.decode (take f.size bs) ≡ f.decode (take f.size (take (f.size + g.size) bs)) = ap f.decode (sym (take-take f.size (f.size + g.size) bs (omega arith))) in
      let b : g.decode (take g.size (drop f.size bs)) ≡ g.decode (drop f.size (take (f.size + g.size) bs)) = ap g.decode (sym (drop-take f.size g.size bs)) in
      ap₂ both_read first second
      ∙ (or_both (f.decode (take f.size bs)) (g.decode (take g.size (drop f.size bs)))
      ∙ (ap or_no_image (ap₂ both a b) ∙ sym (read_long (pair_format f g) bs l)))
]
