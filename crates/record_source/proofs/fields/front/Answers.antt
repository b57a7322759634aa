-- The first bytes, or fewer bytes.
use Rattle.std.proofs.Common.{◌≡◌, ℕ, ◌+◌, ◌<◌, List, length, take, drop, Bor, Option, Some, None, ap, ◌∙◌, arith}
use Rattle.std.proofs.lemmas.List.{length-take-le}
use Rattle.std.specs.Option.{MatchOption, ok_or}
use Rattle.record_source.specs.declared.flaw.Flaw.TheVariants.{Cut}
use Rattle.record_source.specs.Fields.{field}
use Rattle.record_source.specs.Tells.{ReadDigits}
use Rattle.record_source.proofs.Steps.{field_cut, field_digits}
use Rattle.record_source.proofs.fields.front.Goals as goal

split : (n : ℕ) (bs : List ℕ) (o : Option (Bor (List ℕ) × Bor (List ℕ))) → MatchOption o (length bs < n) (λ p. (p.0.now ≡ take n bs) × (p.1.now ≡ drop n bs) × (length p.1.now + n ≡ length bs)) → ReadDigits n (field n bs) (ok_or o Cut)
split n bs None h = field_cut n bs h
split n bs (Some (x, y)) h =
    let l = h.2 in
    (field_digits n bs (omega arith) ∙ cc (h.0, h.1), ap length h.0 ∙ length-take-le n bs (omega arith))

pub returns : goal.returns
returns g c = rw c.ok_or.ensures.value (split g.row.N c.args.rest.now c.split_first_chunk.result c.split_first_chunk.ensures.cases)
