-- What the parser and the cursor tell of a text line. Assumes nothing.
use Rattle.std.specs.Prelude.{◌≡◌, ℕ, ◌+◌, ◌-◌, ◌≤◌, Bool, List, [], ◌∷◌, length, take, drop, ℤ, Ok, Err, Result}
use denote.Bor.{Bor}
use Rattle.answers.specs.declared.fault.Fault.{Fault}
use Rattle.answers.specs.declared.fault.Fault.TheVariants.{MisshapenLine}
use Rattle.answers.specs.declared.refusal.Refusal.{Refusal}
use Rattle.source.specs.Bodies.{item_in, Counts}
use Rattle.source.specs.Items.{Item}
use Rattle.source.specs.Looks.{head_of, ended}
use Rattle.source.specs.declared.body.Body.{Body}
use Rattle.source.specs.declared.head.Head.{Head}
use Rattle.source.specs.declared.head.Mark.{Mark}
use Rattle.text.specs.Words.{Token, lines_of}
use Rattle.text.specs.Words.Token.{number, word}
use Rattle.text.specs.Fronts.{tokens_left, behind_line}
use Rattle.text.specs.declared.scan.Scan.{Scan}
use Rattle.text.specs.declared.scan.Scan.TheVariants.{Number, Word, LineEnd, TextEnd}
use Rattle.text_source.specs.Parse.{Run, got, off, Parsed, good, wrong, parse}
use Rattle.text_source.specs.Reading.{Reading, then, unfed, read_lines}
use Rattle.text_source.specs.Lefts.{left}
use Rattle.text_source.specs.declared.cursor.TextSource.{TextSource}

-- the tokens of a line from a scanned one on
abbrev pub tokens_from : Scan → List Token
tokens_from (Number z rest) = number z ∷ tokens_left rest.now
tokens_from (Word w rest) = word w.now ∷ tokens_left rest.now
tokens_from (LineEnd rest) = []
tokens_from TextEnd = []

-- what stands behind that line
abbrev pub line_behind : Scan → List ℕ
line_behind (Number z rest) = behind_line rest.now
line_behind (Word w rest) = behind_line rest.now
line_behind (LineEnd rest) = rest.now
line_behind TextEnd = []

-- a run read into the front of `out`: n numbers, behind whose 0 `rest` stands, in a line with `behind` behind it
pub record Ran {A : Type 0} (run : Run A) (behind : List ℕ) (out : List A) (n : ℕ) (rest : List ℕ) : Type 0 where
  pub is : run ≡ got (take n out) (tokens_left rest)
  pub few : n ≤ length out
  pub line : behind_line rest ≡ behind

abbrev pub Runs : {A : Type 0} → Run A → List ℕ → List A → Result (ℕ × Bor (List ℕ)) Fault → Type 0
Runs run behind out (Ok p) = Ran run behind out p.0 p.1.now
Runs run behind out (Err f) = run ≡ off f

-- the numbers of a run that is the last of its line
abbrev pub last : Run ℕ → Result (List ℕ) Fault
last (off f) = Err f
last (got ns []) = Ok ns
last (got ns (t ∷ ts)) = Err MisshapenLine

abbrev pub Lasts : Run ℕ → List ℕ → List ℕ → Result (ℕ × Bor (List ℕ)) Fault → Type 0
Lasts run behind out (Ok p) = (last run ≡ Ok (take p.0 out)) × (p.0 ≤ length out) × (p.1.now ≡ behind)
Lasts run behind out (Err f) = last run ≡ Err f

-- a line at a place, parsed into a head and a body, and what stands behind it
abbrev pub Reads : Parsed → ℕ → List ℕ → Body → Result (Head × Bor (List ℕ)) Fault → Type 0
Reads p place behind body (Ok q) = (p ≡ good (item_in q.0 body)) × (q.0 ≡ head_of (item_in q.0 body) place) × Counts q.0 × (q.1.now ≡ behind)
Reads p place behind body (Err f) = p ≡ wrong f

-- a reading's first item and what is left behind it, or its ending
abbrev pub Opens : Reading → Item → ℕ → Reading → Type 0
Opens r x place rest = (r.items ≡ record { item = x; place = place } ∷ rest.items) × (r.ending ≡ rest.ending)

abbrev pub Closes : Reading → Refusal → Type 0
Closes r e = (r.items ≡ []) × (e ≡ ended r.ending)

-- that `rest` is what stands in a text from some place on
abbrev pub StandsIn : List ℕ → List ℕ → Type 0
StandsIn rest bytes = rest ≡ drop (length bytes - length rest) bytes

-- the first line that is not blank begins with z, behind which `rest` stands
pub record Begins (t : TextSource) (z : ℤ) (rest : List ℕ) (place : ℕ) : Type 0 where
  pub stop : Bool
  pub is : left t.bytes.now t.at t.lines ≡ then place stop (parse (number z ∷ tokens_left rest)) (read_lines (unfed t.bytes.now) place (lines_of (behind_line rest)))
  pub next : StandsIn (behind_line rest) t.bytes.now
  pub low : place + length (behind_line rest) ≤ length t.bytes.now

abbrev pub Starts : TextSource → Result (ℤ × Bor (List ℕ) × ℕ) Refusal → Type 0
Starts t (Ok p) = Begins t p.0 p.1.now p.2
Starts t (Err e) = Closes (left t.bytes.now t.at t.lines) e

-- the next line that is not blank, parsed into a head and a body, with a mark behind it; or the ending
abbrev pub Nexts : TextSource → Body → Result (Head × Mark) Refusal → Type 0
Nexts t body (Ok q) = Opens (left t.bytes.now t.at t.lines) (item_in q.0 body) q.1.place (left t.bytes.now q.1.at q.1.place) × (q.0 ≡ head_of (item_in q.0 body) q.1.place) × Counts q.0
Nexts t body (Err e) = Closes (left t.bytes.now t.at t.lines) e
