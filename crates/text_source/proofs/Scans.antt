-- What a scan tells of the line.
use Rattle.std.proofs.Common.{◌≡◌, ℕ, List, sym}
use Rattle.text.specs.Fronts.{tokens_left, behind_line, Told}
use Rattle.text.specs.declared.scan.Scan.{Scan}
use Rattle.text.specs.declared.scan.Scan.TheVariants.{Number, Word, LineEnd, TextEnd}
use Rattle.text_source.specs.Lines.{tokens_from, line_behind}

pub told_tokens : (text : List ℕ) (s : Scan) → Told text s → tokens_left text ≡ tokens_from s
told_tokens text (Number z rest) h = h.tokens
told_tokens text (Word w rest) h = h.0.tokens
told_tokens text (LineEnd rest) h = h.tokens
told_tokens text TextEnd h = h.tokens

pub told_line : (text : List ℕ) (s : Scan) → Told text s → line_behind s ≡ behind_line text
told_line text (Number z rest) h = sym h.line
told_line text (Word w rest) h = sym h.0.line
told_line text (LineEnd rest) h = sym h.line
told_line text TextEnd h = sym h.line
