-- What a text says: its items with their places, up to the first faulty line. Assumes nothing.
use Rattle.std.specs.Prelude.{ℕ, ◌+◌, Bool, true, false, not, ◌&&◌, List, [], ◌∷◌, ◌==◌}
use Rattle.answers.specs.declared.fault.Fault.TheVariants.{NoItem}
use Rattle.source.specs.Items.{Placed, Ending}
use Rattle.text.specs.Words.{Token, lines_of, tokens_of}
use Rattle.text_source.specs.Parse.{Parsed, good, wrong, parse}

-- `stopped` says that the text stopped inside the faulty line
pub record Reading : Type 0 where
  pub items : List Placed
  pub ending : Ending
  pub stopped : Bool

-- the end of the text is the clean ending
abbrev pub clean : Reading
clean = record { items = []; ending = record { fault = NoItem; place = 0 }; stopped = false }

-- a line at a place, and the reading behind it
abbrev pub then : ℕ → Bool → Parsed → Reading → Reading
then place stop (good x) r = record { items = record { item = x; place = place } ∷ r.items; ending = r.ending; stopped = r.stopped }
then place stop (wrong f) r = record { items = []; ending = record { fault = f; place = place }; stopped = stop }

-- a blank line is passed over
abbrev pub line_then : ℕ → Bool → List Token → Reading → Reading
line_then place stop [] r = r
line_then place stop (t ∷ ts) r = then place stop (parse (t ∷ ts)) r

abbrev pub no_lines : List (List ℕ) → Bool
no_lines [] = true
no_lines (l ∷ ls) = false

-- whether no line feed ends the text
abbrev pub unfed : List ℕ → Bool
unfed [] = false
unfed (c ∷ []) = not (c == 10)
unfed (c ∷ d ∷ ds) = unfed (d ∷ ds)

-- the lines behind p others, blank ones counted too; `cut` says that no line feed ends the last
abbrev pub read_lines : Bool → ℕ → List (List ℕ) → Reading
read_lines cut p [] = clean
read_lines cut p (l ∷ ls) = line_then (p + 1) (cut && no_lines ls) (tokens_of l) (read_lines cut (p + 1) ls)

abbrev pub reading : List ℕ → Reading
reading bytes = read_lines (unfed bytes) 0 (lines_of bytes)
