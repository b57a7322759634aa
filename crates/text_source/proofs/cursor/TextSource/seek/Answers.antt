-- A blank line more, or the line that is sought.
use Rattle.std.proofs.Common.{◌≡◌, ◌+◌, ◌∙◌, subst, arith, w32, to_z, of_z, false}
use Rattle.std.proofs.lemmas.Int.{ints}
use Rattle.answers.specs.declared.fault.Fault.TheVariants.{MisshapenLine, NoItem}
use Rattle.text_source.specs.Reading.{unfed}
use Rattle.text_source.specs.Lines.{Begins, StandsIn}
use Rattle.text_source.proofs.Readings.{behind_short, next_stands, read_blank, read_number, read_word, read_none, closes_at}
use Rattle.text_source.proofs.cursor.TextSource.seek.Goals as goal

pub loop-behind-preserved : goal.loop-behind-preserved
loop-behind-preserved c =
    let i = c.loop-behind.invariant in
    let bytes = c.args.self.now.bytes.now in
    let rest = c.loop-behind.rest.now in
    let s = c.in-LineEnd.ensures in
    record {
      is = i.is ∙ read_blank (unfed bytes) c.loop-behind.lines rest c.in-LineEnd.behind.now s;
      stands = subst (λ x. StandsIn x bytes) s.line (next_stands rest bytes (omega (arith, i.low)) i.stands);
      low = omega (arith, i.low, s.shorter);
    }

pub returns-in-Number : goal.returns-in-Number
returns-in-Number c =
    let i = c.loop-behind.invariant in
    let self = c.args.self.now in
    let bytes = c.args.self.now.bytes.now in
    let rest = c.loop-behind.rest.now in
    let behind = c.in-Number.behind.now in
    let g = c.in-Number.ensures in
    let z = c.in-Number.z in
    let y : z ≡ to_z w32 (of_z w32 z) = omega (arith, ints) in
    subst (λ z. Begins self z behind (c.loop-behind.lines + 1)) y record {
      stop = _;
      is = i.is ∙ read_number (unfed bytes) c.loop-behind.lines rest z behind g;
      next = subst (λ x. StandsIn x bytes) g.line (next_stands rest bytes (omega (arith, i.low)) i.stands);
      low = let b = behind_short behind in omega (arith, i.low, g.shorter, b);
    }

pub returns-in-Word : goal.returns-in-Word
returns-in-Word c =
    let i = c.loop-behind.invariant in
    closes_at _ _ MisshapenLine (c.loop-behind.lines + 1) c.at.result c.at.ensures (i.is ∙ read_word (unfed c.args.self.now.bytes.now) c.loop-behind.lines c.loop-behind.rest.now c.in-Word.field-0.now c.in-Word.field-1.now c.in-Word.ensures.0)

pub returns-in-TextEnd : goal.returns-in-TextEnd
returns-in-TextEnd c =
    let i = c.loop-behind.invariant in
    closes_at _ false NoItem 0 c.at-clean.result c.at-clean.ensures (i.is ∙ read_none (unfed c.args.self.now.bytes.now) c.loop-behind.lines c.loop-behind.rest.now c.in-TextEnd.ensures)
