-- Findings parted one after another, and their totals.
use Rattle.std.proofs.Common.{◌≡◌, ℕ, ◌+◌, ◌≤◌, Bool, cond, List, [], ◌∷◌, ◌++◌, map, length, Some, None, Ok, Err, vec_items, count_by, Bor, Vec, subst, sym, refl, ap, ◌∙◌, ap₂, arith}
use Rattle.std.specs.List.{flat_map}
use Rattle.std.specs.declared.alloc.Global.{Global}
use Rattle.std.proofs.lemmas.Grind.{flat_map-append}
use Rattle.std.proofs.lemmas.List.{append-nil, append_assoc, flat_map_more, length-map, length-append, map_push, map-append}
use Rattle.std.proofs.lemmas.List.Sums.{sum_by-append}
use Rattle.terms.specs.declared.refusal.Refusal.{Refusal}
use Rattle.text.specs.Distinct.{distinct_of}
use Rattle.archive.specs.Findings.{Finding, bad, refused, accepted, finding, is_bad, is_refused, accepted_bytes, verdict}
use Rattle.archive.specs.Reports.{Totals, totals_of}
use Rattle.archive.specs.Texts.{answer_text}
use Rattle.archive.specs.Views.{Parted}

-- what one line adds
pub one_accepted : (f : Finding) (v : Vec ℕ Global) → Some (Ok (vec_items v)) ≡ verdict f → Parted (f ∷ []) (v ∷ []) 0 0
one_accepted bad v e = cc
one_accepted (refused x) v e = cc
one_accepted (accepted k bs p) v e = record { accepts = cc; refusals = refl; bads = refl }

pub one_refused : (f : Finding) (x : Refusal) → Some (Err x) ≡ verdict f → Parted (f ∷ []) [] 1 0
one_refused bad x e = cc
one_refused (refused y) x e = record { accepts = refl; refusals = refl; bads = refl }
one_refused (accepted k bs p) x e = cc

pub one_bad : (f : Finding) → None ≡ verdict f → Parted (f ∷ []) [] 0 1
one_bad bad e = record { accepts = refl; refusals = refl; bads = refl }
one_bad (refused y) e = cc
one_bad (accepted k bs p) e = cc

-- the lines so far, and their findings
abbrev pub lines : List (Bor (List ℕ)) → List (List ℕ)
lines ls = map (λ l. l.now) ls

abbrev pub findings : List (Bor (List ℕ)) → List Finding
findings ls = map finding (lines ls)

-- of all lines these and those that are left: the answers to these are out, and their findings are parted
pub record Reported (all : List (List ℕ)) (ls : List (Bor (List ℕ))) (left : List (List ℕ)) (text : List ℕ) (vs : List (Vec ℕ Global)) (r b : ℕ) : Type 0 where
  pub every : lines ls ++ left ≡ all
  pub answers : text ≡ flat_map answer_text (findings ls)
  pub parted : Parted (findings ls) vs r b

count_more : (p : Finding → Bool) (fs gs : List Finding) → count_by p (fs ++ gs) ≡ count_by p fs + count_by p gs
count_more p fs gs = sum_by-append (λ f. cond (p f) 1 0) fs gs

pub reported_more : {all left rest : List (List ℕ)} {ls : List (Bor (List ℕ))} {text after : List ℕ} {vs ws us : List (Vec ℕ Global)} {r b s d t e : ℕ} (l : Bor (List ℕ))
    → Reported all ls left text vs r b → Parted (finding l.now ∷ []) ws s d → left ≡ l.now ∷ rest → after ≡ text ++ answer_text (finding l.now) → us ≡ vs ++ ws → t ≡ r + s → e ≡ b + d
    → Reported all (ls ++ l ∷ []) rest after us t e
reported_more {rest} {ls} {vs} {ws} l was one next a items refusals bads =
    let fs = findings ls in
    let gs = finding l.now ∷ [] in
    let seen : lines (ls ++ l ∷ []) ≡ lines ls ++ l.now ∷ [] = map_push (λ x. x.now) ls l in
    let more : findings (ls ++ l ∷ []) ≡ fs ++ gs = ap (map finding) seen ∙ map_push finding (lines ls) l.now in
    record {
      every = ap (λ x. x ++ rest) seen ∙ (append_assoc (lines ls) (l.now ∷ []) rest ∙ (ap (λ x. lines ls ++ x) (sym next) ∙ was.every));
      answers = a ∙ (ap (λ x. x ++ answer_text (finding l.now)) was.answers ∙ (flat_map_more answer_text [] fs (finding l.now) ∙ ap (flat_map answer_text) (sym more)));
      parted = record {
        accepts = ap (map vec_items) items ∙ (map-append vec_items vs ws ∙ (ap₂ ◌++◌ was.parted.accepts one.accepts ∙ (sym (flat_map-append accepted_bytes fs gs) ∙ ap (flat_map accepted_bytes) (sym more))));
        refusals = omega (arith, was.parted.refusals, one.refusals, count_more is_refused fs gs, ap (count_by is_refused) more);
        bads = omega (arith, was.parted.bads, one.bads, count_more is_bad fs gs, ap (count_by is_bad) more);
      };
    }

-- ---- the totals

-- each finding was accepted, refused or bad, and is counted once
counted_once : (fs : List Finding) → length (flat_map accepted_bytes fs) + count_by is_refused fs + count_by is_bad fs ≡ length fs
counted_once [] = refl
counted_once (bad ∷ fs) = let rest = counted_once fs in omega (arith, count_more is_refused (bad ∷ []) fs, count_more is_bad (bad ∷ []) fs)
counted_once (refused e ∷ fs) = let rest = counted_once fs in omega (arith, count_more is_refused (refused e ∷ []) fs, count_more is_bad (refused e ∷ []) fs)
counted_once (accepted k bs p ∷ fs) = let rest = counted_once fs in omega (arith, count_more is_refused (accepted k bs p ∷ []) fs, count_more is_bad (accepted k bs p ∷ []) fs)

parted_all : (fs : List Finding) (vs : List (Vec ℕ Global)) (r b : ℕ) → Parted fs vs r b → length vs + r + b ≡ length fs
parted_all fs vs r b s = omega (arith, s.refusals, s.bads, counted_once fs, length-map vs vec_items, ap length s.accepts)

pub reported_few : {all left : List (List ℕ)} {ls : List (Bor (List ℕ))} {text : List ℕ} {vs : List (Vec ℕ Global)} {r b : ℕ} → Reported all ls left text vs r b
    → length vs + r + b ≤ length all
reported_few {left} {ls} {vs} {r} {b} was =
    omega (arith, parted_all (findings ls) vs r b was.parted, length-map (lines ls) finding, length-append (lines ls) left, ap length was.every)

-- where no line is left, all were answered
pub reported_all : {all left : List (List ℕ)} {ls : List (Bor (List ℕ))} {text : List ℕ} {vs : List (Vec ℕ Global)} {r b : ℕ} → Reported all ls left text vs r b
    → left ≡ [] → (text ≡ flat_map answer_text (map finding all)) × Parted (map finding all) vs r b
reported_all {all} {ls} {vs} {r} {b} was none =
    let e : findings ls ≡ map finding all = ap (map finding) (sym (append-nil (lines ls)) ∙ (ap (λ x. lines ls ++ x) (sym none) ∙ was.every)) in
    (was.answers ∙ ap (flat_map answer_text) e, subst (λ fs. Parted fs vs r b) e was.parted)

abbrev pub totals : ℕ → ℕ → ℕ → ℕ → ℕ → Totals
totals t o r b d = record { total = t; ok = o; refused = r; bad = b; distinct = d }

pub totals_is : (fs : List Finding) (vs : List (Vec ℕ Global)) (o r b d : ℕ) → Parted fs vs r b → o ≡ length vs → d ≡ distinct_of (map vec_items vs) → totals (o + r + b) o r b d ≡ totals_of fs
totals_is fs vs o r b d s eo ed =
    let oks : o ≡ length (flat_map accepted_bytes fs) = eo ∙ (sym (length-map vs vec_items) ∙ ap length s.accepts) in
    let every : o + r + b ≡ length fs = omega (arith, parted_all fs vs r b s) in
    let different : d ≡ distinct_of (flat_map accepted_bytes fs) = ed ∙ ap distinct_of s.accepts in
    let refusals = s.refusals in
    let bads = s.bads in
    cc
