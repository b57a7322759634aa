-- What a look answers and writes, and what a step answers. Assumes nothing.
use Rattle.std.specs.Prelude.{ℕ, Bool, true, false, ◌&&◌, List, [], ◌∷◌, length, Ok, Err, Result, nat_le}
use Rattle.answers.specs.declared.fault.Fault.TheVariants.{ShortBuffer}
use Rattle.answers.specs.declared.refusal.Refusal.{Refusal}
use Rattle.answers.specs.Refusals.{refusal_at}
use Rattle.source.specs.declared.head.Head.{Head}
use Rattle.source.specs.declared.head.Head.TheVariants.{Addition, Deletion}
use Rattle.source.specs.Items.{Item, addition, deletion, Placed, Ending, onto}

abbrev pub head_of : Item → ℕ → Head
head_of (addition n ls hs) place = Addition n (length ls) (length hs) place
head_of (deletion ns) place = Deletion (length ns) place

-- an ending is answered as a refusal with its own place
abbrev pub ended : Ending → Refusal
ended e = refusal_at e.fault e.place

abbrev pub first_head : List Placed → Ending → Result Head Refusal
first_head [] e = Err (ended e)
first_head (x ∷ xs) e = Ok (head_of x.item x.place)

-- whether the buffers have space for every item
abbrev pub wide : {A B : Type 0} → List A → List B → Bool
wide ls hs = nat_le 64 (length ls) && nat_le 256 (length hs)

abbrev pub looked : Bool → List Placed → Ending → Result Head Refusal
looked true xs e = first_head xs e
looked false xs e = Err (refusal_at ShortBuffer 0)

abbrev pub written : {A : Type 0} → Bool → List A → List A → List A
written true xs ys = onto xs ys
written false xs ys = ys

abbrev pub stepped : List Placed → Ending → Result (Unit {0}) Refusal
stepped [] e = Err (ended e)
stepped (x ∷ xs) e = Ok tt
