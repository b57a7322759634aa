-- What the functions that read bytes tell. Assumes nothing.
use Rattle.std.specs.Prelude.{◌≡◌, ℕ, ◌+◌, ◌*◌, true, List, [], ◌∷◌, length, drop, Ok, Err, Result}
use Rattle.std.specs.Borrow.{Bor}
use Rattle.answers.specs.declared.refusal.Refusal.{Refusal}
use Rattle.source.specs.Bodies.{item_in, Counts}
use Rattle.source.specs.Looks.{ended, head_of}
use Rattle.source.specs.declared.body.Body.{Body}
use Rattle.source.specs.declared.head.Head.{Head}
use Rattle.source.specs.declared.head.Mark.{Mark}
use Rattle.record_source.specs.declared.flaw.Flaw.{Flaw}
use Rattle.record_source.specs.declared.found.Found.{Found}
use Rattle.record_source.specs.declared.found.Found.TheVariants.{Item, Last}
use Rattle.record_source.specs.declared.cursor.RecordSource.{RecordSource}
use Rattle.record_source.specs.Fields.{Got, got, flawed}
use Rattle.record_source.specs.Records.{Entry, line, last, first_record}
use Rattle.record_source.specs.Reading.{before}
use Rattle.record_source.specs.Lefts.{reached, left}
use Rattle.record_source.specs.Cursors.{items_left, ending_left}

-- a value, and what is left behind it
abbrev pub Read : {A : Type 0} → Got A → Result (A × Bor (List ℕ)) Flaw → Type 0
Read g (Ok p) = g ≡ got p.0 p.1.now
Read g (Err w) = g ≡ flawed w

-- the number whose digits of base 256 these are, behind those that say n
abbrev pub digits : ℕ → List ℕ → ℕ
digits n [] = n
digits n (b ∷ bs) = digits (n * 256 + b) bs

-- the k bytes of a number, and what is left behind them
abbrev pub ReadDigits : ℕ → Got ℕ → Result (Bor (List ℕ) × Bor (List ℕ)) Flaw → Type 0
ReadDigits k g (Ok p) = (g ≡ got (digits 0 p.0.now) p.1.now) × (length p.0.now ≡ k)
ReadDigits k g (Err w) = g ≡ flawed w

-- fields in a row, which fill out, and what is left behind them
abbrev pub ReadRow : {A : Type 0} → Got (List A) → List A → Result (Bor (List ℕ)) Flaw → Type 0
ReadRow g out (Ok rest) = g ≡ got out rest.now
ReadRow g out (Err w) = g ≡ flawed w

-- a record at a place, whose literals and numbers are written to a body, and what is left behind it
abbrev pub Finds : Got Entry → ℕ → Body → Found × Bor (List ℕ) → Type 0
Finds g place b (Item h, rest) = (g ≡ got (line (item_in h b)) rest.now) × (h ≡ head_of (item_in h b) place)
Finds g place b (Last n, rest) = g ≡ got (last n) rest.now

-- such a record, or what is wrong there
abbrev pub ReadRecord : Got Entry → ℕ → Body → Result (Found × Bor (List ℕ)) Flaw → Type 0
ReadRecord g place b (Ok p) = Finds g place b p
ReadRecord g place b (Err w) = g ≡ flawed w

-- no item is left at a cursor, and the ending is answered
abbrev pub Closes : RecordSource → Refusal → Type 0
Closes s e = (items_left s ≡ []) × (e ≡ ended (ending_left s))

-- the record that stands at a cursor, or the ending
abbrev pub Stands : RecordSource → Body → Result (Found × Bor (List ℕ)) Refusal → Type 0
Stands s b (Ok p) = (reached s.bytes.now s.mark.at s.mark.place s.mark.additions ≡ true) × Finds (first_record (drop s.mark.at s.bytes.now)) (s.mark.place + 1) b p
Stands s b (Err e) = Closes s e

-- the first item left at a cursor, with counts within the limits, and a mark behind it; or the ending
abbrev pub Nexts : RecordSource → Body → Result (Head × Mark) Refusal → Type 0
Nexts s b (Ok (h, m)) = (left s.bytes.now s.mark.at s.mark.place s.mark.additions ≡ before (item_in h b) (s.mark.place + 1) (left s.bytes.now m.at m.place m.additions)) × (h ≡ head_of (item_in h b) (s.mark.place + 1)) × Counts h
Nexts s b (Err e) = Closes s e
