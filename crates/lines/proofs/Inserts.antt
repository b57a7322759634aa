-- Rows and heads in the slots of one table. Assumes nothing.
use Rattle.std.proofs.Common.{◌≡◌, ℕ, zero, suc, ◌<◌, ◌≤◌, List, [], ◌∷◌, map, length, get_or, take, set, Some, None, sym, refl, ap, ◌∙◌, arith}
use Rattle.std.specs.List.{slice_get}
use Rattle.std.proofs.lemmas.Option.{gets, slice_get_within, slice_get_cases, get_or_from_slice_get}
use Rattle.std.proofs.lemmas.List.{length-map, length-take, get_or-take, get_or-map, get_or_past, map-set, set-get_or}
use Rattle.lines.specs.declared.entry.Row.{Row}
use Rattle.lines.specs.declared.entry.Entry.{Entry}
use Rattle.lines.specs.Rows.{at, no_row, no_entry, row_of, head_of}

-- what a slot holds
pub slot_some : {X : Type 0} (d : X) (xs : List X) (i : ℕ) (x : X) → Some x ≡ slice_get xs i → (i < length xs) × (x ≡ get_or xs i d)
slot_some d xs i x e = (slice_get_within xs i x (sym e), sym (get_or_from_slice_get xs i x d (sym e)))

pub slot_none : {X : Type 0} (xs : List X) (i : ℕ) → None ≡ slice_get xs i → length xs ≤ i
slot_none xs i e = grind (arith, gets, slice_get_cases xs i)

pub head_some : (xs : List Entry) (i : ℕ) (e : Entry) → Some e ≡ slice_get xs i → e.head ≡ get_or (map head_of xs) i 0
head_some xs i e is =
    let w = slot_some no_entry xs i e is in
    ap head_of w.1 ∙ sym (get_or-map head_of xs i no_entry 0 w.0)

pub head_none : (xs : List Entry) (i : ℕ) → None ≡ slice_get xs i → 0 ≡ get_or (map head_of xs) i 0
head_none xs i is = sym (get_or_past (map head_of xs) i 0 (simp length-map (slot_none xs i is)))

-- writing a head leaves the rows, those of the front too
pub rows_kept : (xs : List Entry) (i : ℕ) (y : Entry) → y.row ≡ (get_or xs i no_entry).row → map row_of (set xs i y) ≡ map row_of xs
rows_kept [] i y is = refl
rows_kept (x ∷ xs) zero y is = ap (λ (r : Row). r ∷ map row_of xs) is
rows_kept (x ∷ xs) (suc i) y is = ap (λ l. x.row ∷ l) (rows_kept xs i y is)

pub front_kept : (n : ℕ) (xs : List Entry) (i : ℕ) (y : Entry) → y.row ≡ (get_or xs i no_entry).row → map row_of (set (take n xs) i y) ≡ map row_of (take n xs)
front_kept zero xs i y is = refl
front_kept (suc n) [] i y is = refl
front_kept (suc n) (x ∷ xs) zero y is = ap (λ (r : Row). r ∷ map row_of (take n xs)) is
front_kept (suc n) (x ∷ xs) (suc i) y is = ap (λ l. x.row ∷ l) (front_kept n xs i y is)

-- writing a row with the head that its slot had leaves the heads
pub heads_kept : (n : ℕ) (xs : List Entry) (x : Entry) → n < length xs → x.head ≡ (get_or xs n no_entry).head → map head_of (set xs n x) ≡ map head_of xs
heads_kept n xs x low is = map-set head_of xs n x ∙ ap (set (map head_of xs) n) (is ∙ sym (get_or-map head_of xs n no_entry 0 low)) ∙ set-get_or (map head_of xs) n 0

-- an entry of the table is its row and head
pub entry_row : (es : List Entry) (t : ℕ) (e : Entry) → Some e ≡ slice_get es t → (t < length es) × (e.row ≡ at (map row_of es) t)
entry_row es t e is =
    let w = slot_some no_entry es t e is in
    (w.0, ap row_of w.1 ∙ sym (get_or-map row_of es t no_entry no_row w.0))

-- and so it is in the whole table
pub entry_slot : (n : ℕ) (xs : List Entry) (t : ℕ) (e : Entry) → Some e ≡ slice_get (take n xs) t → (t < length xs) × (e ≡ get_or xs t no_entry)
entry_slot n xs t e is =
    let w = slot_some no_entry (take n xs) t e is in
    let l = simp length-take at w.0 in
    (omega arith, w.1 ∙ get_or-take n xs t no_entry (omega arith))
