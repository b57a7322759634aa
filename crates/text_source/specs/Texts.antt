-- The text of items: single spaces, and a line feed behind each line. Assumes nothing.
use Rattle.std.specs.Prelude.{ℕ, ◌+◌, List, [], ◌∷◌, ◌++◌, map, decimal}
use Rattle.std.specs.Fmt.{signed_decimal}
use Rattle.source.specs.Items.{Item, addition, deletion, Placed}
use Rattle.text.specs.Written.{spaced}

-- the words of an item's line; n heads a deletion
abbrev pub item_words : ℕ → Item → List (List ℕ)
item_words n (addition m ls hs) = decimal m ∷ (map signed_decimal ls ++ decimal 0 ∷ (map decimal hs ++ decimal 0 ∷ []))
item_words n (deletion ns) = decimal n ∷ (100 ∷ []) ∷ (map decimal ns ++ decimal 0 ∷ [])

-- the number that heads the deletions behind an item: that of the addition before
abbrev pub head_behind : ℕ → Item → ℕ
head_behind n (addition m ls hs) = m
head_behind n (deletion ns) = n

abbrev pub text_of : ℕ → List Item → List ℕ
text_of n [] = []
text_of n (x ∷ xs) = spaced (item_words n x) ++ 10 ∷ text_of (head_behind n x) xs

-- items in the lines behind p others
abbrev pub placed_from : ℕ → List Item → List Placed
placed_from p [] = []
placed_from p (x ∷ xs) = record { item = x; place = p + 1 } ∷ placed_from (p + 1) xs
