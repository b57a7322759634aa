use Rattle.std.proofs.Common.{map, sym, ap, ◌∙◌}
use Rattle.std.proofs.lemmas.List.{map-set, set_past, length-map}
use Rattle.tables.specs.Filled.{slots_of}
use Rattle.lines.specs.Rows.{no_entry, row_of, head_of}
use Rattle.lines.proofs.Inserts.{slot_some, slot_none, rows_kept, front_kept}
use Rattle.lines.proofs.heads.set_head.Goals as goal

pub returns-in-Some-clause-heads : goal.returns-in-Some-clause-heads
returns-in-Some-clause-heads c = ap (map head_of) c.set_slot.ensures.slots ∙ map-set head_of (slots_of c.args.entries.now) c.args.i _

pub returns-in-Some-clause-rows : goal.returns-in-Some-clause-rows
returns-in-Some-clause-rows c =
    let f = c.args.entries.now in
    ap (map row_of) c.set_slot.ensures.list ∙ front_kept f.len (slots_of f) c.args.i _ (ap row_of (slot_some no_entry (slots_of f) c.args.i c.in-Some.entry c.in-Some.ensures).1)

pub returns-in-Some-clause-slots : goal.returns-in-Some-clause-slots
returns-in-Some-clause-slots c =
    let f = c.args.entries.now in
    ap (map row_of) c.set_slot.ensures.slots ∙ rows_kept (slots_of f) c.args.i _ (ap row_of (slot_some no_entry (slots_of f) c.args.i c.in-Some.entry c.in-Some.ensures).1)

pub returns-in_default-clause-heads : goal.returns-in_default-clause-heads
returns-in_default-clause-heads c = sym (set_past _ c.args.i c.args.head (simp length-map (slot_none (slots_of c.args.entries.now) c.args.i c.in_default.ensures)))
