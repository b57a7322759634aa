use Rattle.std.proofs.Common.{◌≡◌, ℕ, ◌+◌, ◌<◌, ◌≤◌, Bool, true, cond, leb, List, [], ◌∷◌, map, length, get_or, set, sym, refl, ap, ◌∙◌, arith}
use Rattle.std.proofs.lemmas.List.{map-set, get_or-map}
use Rattle.tables.specs.Filled.{filled, slots_of, over}
use Rattle.tables.proofs.Overs.{over_one}
use Rattle.formula.proofs.Elements.{all_put}
use Rattle.lines.specs.declared.entry.Entry.{Entry}
use Rattle.lines.specs.Rows.{no_entry, row_of, head_of, heads_of}
use Rattle.lines.proofs.Inserts.{heads_kept}
use Rattle.lines.proofs.lines.store.insert.Goals as goal

-- the slots with an entry put behind n others
put : (xs ys : List Entry) (n : ℕ) (x : Entry) (r : Bool) → n < length xs → r ≡ leb (n + 1) (length xs) → ys ≡ cond r (over xs n (x ∷ [])) xs → ys ≡ set xs n x
put xs ys n x r low a e =
    let one : n + 1 ≤ length xs = omega arith in
    all_put r (n + 1) (length xs) ys (over xs n (x ∷ [])) xs a e one ∙ sym (over_one xs n n x low refl)

pub returns-clause-slots : goal.returns-clause-slots
returns-clause-slots c =
    let f = c.args.entries.now in
    let xs = slots_of f in
    let n = length (filled f) in
    let x : Entry = record { row = record { number = c.args.number; alive = true; literals = c.args.literals; hints = c.args.hints; link = c.head_at.result }; head = c.head_at-head.result } in
    c.set_head.ensures.slots ∙ ap (map row_of) (put xs (slots_of c.push.new.self) n x c.push.result c.requires.space c.push.ensures.answer c.push.ensures.slots) ∙ map-set row_of xs n x ∙ ap (λ (k : ℕ). set (map row_of xs) n (record { number = c.args.number; alive = true; literals = c.args.literals; hints = c.args.hints; link = k })) c.head_at.ensures

pub returns-clause-heads : goal.returns-clause-heads
returns-clause-heads c =
    let f = c.args.entries.now in
    let xs = slots_of f in
    let n = length (filled f) in
    let t : c.len-t.result ≡ n = c.len-t.ensures in
    let low : n < length xs = c.requires.space in
    let x : Entry = record { row = record { number = c.args.number; alive = true; literals = c.args.literals; hints = c.args.hints; link = c.head_at.result }; head = c.head_at-head.result } in
    let h : x.head ≡ (get_or xs n no_entry).head = c.head_at-head.ensures ∙ ap (λ (k : ℕ). get_or (heads_of f) k 0) t ∙ get_or-map head_of xs n no_entry 0 low in
    c.set_head.ensures.heads ∙ ap (λ (l : List ℕ). set l c.args.b c.len-t.result) (ap (map head_of) (put xs (slots_of c.push.new.self) n x c.push.result low c.push.ensures.answer c.push.ensures.slots) ∙ heads_kept n xs x low h) ∙ ap (set (map head_of xs) c.args.b) t
