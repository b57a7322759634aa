-- What is left behind the item that was found, or at the last record.
use Rattle.std.proofs.Common.{◌≡◌, ◌+◌, ◌-◌, ◌^◌, ◌<◌, length, subst, sym, drop, ap, ◌∙◌, arith, rules, ℕ, List, Bor, Ok}
use Rattle.source.specs.Bodies.{item_in, Counts}
use Rattle.source.specs.Looks.{ended, head_of}
use Rattle.source.specs.Items.{Item, addition, deletion}
use Rattle.source.specs.Limits.{Within, AllWithin}
use Rattle.source.specs.declared.head.Head.{Head}
use Rattle.record_source.specs.Keeps.{left_within}
use Rattle.source.specs.declared.body.Body.{Body}
use Rattle.record_source.specs.declared.cursor.RecordSource.{RecordSource}
use Rattle.record_source.specs.declared.found.Found.{Found}
use Rattle.record_source.specs.declared.found.Found.TheVariants.{Last}
use Rattle.answers.specs.declared.refusal.Refusal.{Refusal}
use Rattle.record_source.specs.Lefts.{left}
use Rattle.record_source.specs.Records.{first_record, line}
use Rattle.record_source.specs.Reading.{Reading, before, counted, closing}
use Rattle.record_source.specs.Tells.{Finds, Stands, Closes}
use Rattle.record_source.proofs.Places.{where_left, left_line, counted_other, last_closes}
use Rattle.record_source.proofs.cursor.RecordSource.next.Goals as goal
use Rattle.record_source.proofs.cursor.RecordSource.next.Goals.{in-Addition, in_default}

-- what is told of the record, once it is known which
found : (s : RecordSource) (b : Body) (r : Bor (List ℕ)) (f k : Found) → f ≡ k → Stands s b (Ok (f, r)) → Finds (first_record (drop s.mark.at s.bytes.now)) (s.mark.place + 1) b (k, r)
found s b r f k e h = subst (λ x. Finds (first_record (drop s.mark.at s.bytes.now)) (s.mark.place + 1) b (x, r)) e h.1

-- an item that is left keeps the limits, and so do the counts of its head
counts_left : (s : RecordSource) (h : Head) (b : Body) (place : ℕ) (on : Reading) → left s.bytes.now s.mark.at s.mark.place s.mark.additions ≡ before (item_in h b) place on → h ≡ head_of (item_in h b) place → Counts h
counts_left s h b place on e k =
    subst Counts (sym k) (counts_of (item_in h b) place (subst (λ (q : Reading). AllWithin q.items) e (left_within s.bytes.now s.mark.at s.mark.place s.mark.additions)).0)
  where
    counts_of : (x : Item) (place : ℕ) → Within x → Counts (head_of x place)
    counts_of (addition n ls hs) place w = (w.2, w.4)
    counts_of (deletion ns) place w = w.1

pub overflow_sub-mark : goal.overflow_sub-mark
overflow_sub-mark c =
    let s = c.args.self.now in
    let small : length s.bytes.now < 2 ^ 64 = omega arith in
    let h = found s c.record.new.body c.in_ok-found.rest _ _ c.in-Item.is c.in_ok-found.ensures in
    let l = (where_left s.bytes.now s.mark.at s.mark.place s.mark.additions small c.in_ok-found.ensures.0 (line (item_in c.in-Item.head c.record.new.body)) c.in_ok-found.rest.now h.0).1 in
    omega arith

pub returns-after-matches : goal.returns-after-matches
returns-after-matches c =
    let s = c.args.self.now in
    let b = c.record.new.body in
    let x = item_in c.in-Item.head b in
    let r = c.in_ok-found.rest.now in
    let small : length s.bytes.now < 2 ^ 64 = omega arith in
    let h = found s b c.in_ok-found.rest _ _ c.in-Item.is c.in_ok-found.ensures in
    let more : counted x s.mark.additions ≡ s.mark.additions + c.from.result =
    elim c.match-matches.branch [
      | in-Addition w ↦ ap (λ y. counted (item_in y b) s.mark.additions) w.in-Addition.is ∙ ap (λ n. s.mark.additions + n) (let m = w.matches-is in let f = c.from.ensures in cc)
      | in_default w ↦ counted_other c.in-Item.head b s.mark.additions w.in_default.not-Addition ∙ (let m = w.matches-is in let f = c.from.ensures in let none : c.from.result ≡ 0 = cc in omega arith)
    ] in
    let e =
    subst (λ n. left s.bytes.now s.mark.at s.mark.place s.mark.additions ≡ before x (s.mark.place + 1) (left s.bytes.now (length s.bytes.now - length r) (s.mark.place + 1) n)) more
    (left_line s.bytes.now s.mark.at s.mark.place s.mark.additions small c.in_ok-found.ensures.0 x r h.0)
    in (e, h.1, counts_left s c.in-Item.head b _ _ e h.1)

-- what is answered at the last record
at_last : (s : RecordSource) (b : Body) (r : Bor (List ℕ)) (f : Found) (n : ℕ) (e : Refusal) → length s.bytes.now < 2 ^ 64 → f ≡ Last n → Stands s b (Ok (f, r)) → e ≡ ended (closing n s.mark.additions (s.mark.place + 1) (length r.now)).ending → Closes s e
at_last s b r f n e small i h k = last_closes s n r.now e small h.0 (found s b r f (Last n) i h) k

pub returns-then-n-self : goal.returns-then-n-self
returns-then-n-self c =
    at_last c.args.self.now c.record.new.body c.in_ok-found.rest _ c.in-Last.n c.at.result (omega arith) c.in-Last.is c.in_ok-found.ensures (search rules)

pub returns-then-is_empty : goal.returns-then-is_empty
returns-then-is_empty c =
    at_last c.args.self.now c.record.new.body c.in_ok-found.rest _ c.in-Last.n c.at-then-is_empty.result (omega arith) c.in-Last.is c.in_ok-found.ensures (search rules)

pub returns-else-is_empty : goal.returns-else-is_empty
returns-else-is_empty c =
    at_last c.args.self.now c.record.new.body c.in_ok-found.rest _ c.in-Last.n c.at-else-is_empty.result (omega arith) c.in-Last.is c.in_ok-found.ensures (search rules)
