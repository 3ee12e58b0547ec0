-- What is done to a list of entries, and what is looked for in it. Assumes nothing.
use Rattle.std.specs.Prelude.{Bool, cond, List, [], ◌∷◌, Some, None, Option}
use Rattle.std.specs.List.{flat_map}
use Rattle.std.specs.Option.{option_or}
use Rattle.tree.specs.Orders.{Order, past}

-- one more, before the first that is past it
abbrev pub placed : {A K : Type 0} → Order A K → A → List A → List A
placed O e [] = e ∷ []
placed O e (f ∷ fs) = cond (past O (O.key e) f) (e ∷ (f ∷ fs)) (f ∷ placed O e fs)

-- in place of each that passes a test, what is given for it
abbrev pub edited : {A : Type 0} → (A → Bool) → (A → List A) → List A → List A
edited P g es = flat_map (λ e. cond (P e) (g e) (e ∷ [])) es

-- the others
abbrev pub without : {A : Type 0} → (A → Bool) → List A → List A
without P es = edited P (λ e. []) es

-- f in place of each that passes a test
abbrev pub replaced : {A : Type 0} → (A → Bool) → A → List A → List A
replaced P f es = edited P (λ e. f ∷ []) es

-- the last that passes a test
abbrev pub last_of : {A : Type 0} → (A → Bool) → List A → Option A
last_of P [] = None
last_of P (e ∷ es) = option_or (last_of P es) (cond (P e) (Some e) None)
