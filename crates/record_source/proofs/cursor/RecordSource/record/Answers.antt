use Rattle.std.proofs.Common.{◌≡◌, ◌+◌, ◌-◌, ◌^◌, ◌<◌, true, List, ℕ, length, take, drop, subst, length-drop, Bor, Result, Ok, Err, arith, rules}
use Rattle.std.proofs.lemmas.List.{take_all}
use Rattle.std.specs.Result.{MatchResult, IsErrAnd}
use Rattle.answers.specs.Refusals.{refusal_at}
use Rattle.answers.specs.declared.refusal.Refusal.{Refusal}
use Rattle.source.specs.declared.body.Body.{Body}
use Rattle.record_source.specs.declared.cursor.RecordSource.{RecordSource}
use Rattle.record_source.specs.declared.flaw.Flaw.{Flaw}
use Rattle.record_source.specs.declared.found.Found.{Found}
use Rattle.record_source.specs.Lefts.{reached}
use Rattle.record_source.specs.Reading.{fault_of, is_cut}
use Rattle.record_source.specs.Records.{first_record}
use Rattle.record_source.specs.Tells.{ReadRecord, Stands}
use Rattle.record_source.proofs.Places.{left_flawed, none_left}
use Rattle.record_source.proofs.cursor.RecordSource.record.Goals as goal

named : (s : RecordSource) (b : Body) (r : Result (Found × Bor (List ℕ)) Flaw) (y : Result (Found × Bor (List ℕ)) Refusal) (Q : Flaw → Refusal → Type 0) → length s.bytes.now < 2 ^ 64 → reached s.bytes.now s.mark.at s.mark.place s.mark.additions ≡ true →
    ReadRecord (first_record (drop s.mark.at s.bytes.now)) (s.mark.place + 1) b r → MatchResult r (λ x. y ≡ Ok x) (λ w. IsErrAnd y (Q w)) → ((w : Flaw) (e : Refusal) → Q w e → e ≡ refusal_at (fault_of w) (s.mark.place + 1)) → Stands s b y
named s b (Ok x) y Q small ok h m k = rw m (ok, h)
named s b (Err w) (Ok x) Q small ok h m k = absurd m
named s b (Err w) (Err e) Q small ok h m k = none_left s (fault_of w) (s.mark.place + 1) (is_cut w) e (left_flawed s.bytes.now s.mark.at s.mark.place s.mark.additions small ok w h) (k w e m)

pub returns : goal.returns
returns c =
    let bs = c.args.self.now.bytes.now in
    let at = c.args.self.now.mark.at in
    let small : length bs < 2 ^ 64 = omega arith in
    let ok : reached bs at c.args.self.now.mark.place c.args.self.now.mark.additions ≡ true = search rules in
    let behind : take (length bs - at) (drop at bs) ≡ drop at bs = take_all (length bs - at) (drop at bs) (omega (arith, length-drop at bs)) in
    let h = subst (λ r. ReadRecord (first_record r) (c.args.self.now.mark.place + 1) c.first.new.body c.first.result) behind c.first.ensures in
    named c.args.self.now c.first.new.body c.first.result c.map_err.result _ small ok h c.map_err.ensures.cases (λ w e q. search rules)
