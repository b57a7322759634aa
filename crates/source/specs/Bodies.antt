-- The item that a head and the numbers beside it are. Assumes nothing.
use Rattle.std.specs.Prelude.{ℕ, ◌≤◌, take}
use Rattle.source.specs.declared.head.Head.{Head}
use Rattle.source.specs.declared.head.Head.TheVariants.{Addition, Deletion}
use Rattle.source.specs.declared.body.Body.{Body}
use Rattle.source.specs.Items.{Item, addition, deletion}

abbrev pub item_in : Head → Body → Item
item_in (Addition n l h place) b = addition n (take l b.literals) (take h b.numbers)
item_in (Deletion h place) b = deletion (take h b.numbers)

abbrev pub place_of : Head → ℕ
place_of (Addition n l h place) = place
place_of (Deletion h place) = place

-- the counts of a head are within the limits
abbrev pub Counts : Head → Type 0
Counts (Addition n l h place) = (l ≤ 64) × (h ≤ 256)
Counts (Deletion h place) = h ≤ 256
