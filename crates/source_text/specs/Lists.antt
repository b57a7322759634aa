-- The list of a source in words. Assumes nothing.
use Rattle.std.specs.Prelude.{ℕ, List, [], ◌∷◌, ◌++◌, ℤ, codes, decimal}
use Rattle.std.specs.List.{flat_map}
use Rattle.answers.specs.declared.fault.Fault.{Fault}
use Rattle.answers.specs.Numbers.{number_of}
use Rattle.plain_text.specs.Texts.{literals_text, numbers_text}
use Rattle.source.specs.Items.{Item, addition, deletion, Placed, Ending}

-- an addition as LRAT text, with its place in front
abbrev pub addition_text : ℕ → ℕ → List ℤ → List ℕ → List ℕ
addition_text place n ls hs = codes "place=" ++ (decimal place ++ (32 ∷ (decimal n ++ (32 ∷ (literals_text ls ++ (codes "0 " ++ (numbers_text hs ++ codes "0\n")))))))

-- a deletion likewise, with 0 as its own number
abbrev pub deletion_text : ℕ → List ℕ → List ℕ
deletion_text place ns = codes "place=" ++ (decimal place ++ (codes " 0 d " ++ (numbers_text ns ++ codes "0\n")))

abbrev pub item_text : ℕ → Item → List ℕ
item_text place (addition n ls hs) = addition_text place n ls hs
item_text place (deletion ns) = deletion_text place ns

abbrev pub ending_text : Fault → ℕ → List ℕ
ending_text f place = codes "ending number=" ++ (decimal (number_of f) ++ (codes " place=" ++ (decimal place ++ (10 ∷ []))))

-- a line for each item, then the ending
abbrev pub listing : List Placed → Ending → List ℕ
listing xs e = flat_map (λ x. item_text x.place x.item) xs ++ ending_text e.fault e.place
