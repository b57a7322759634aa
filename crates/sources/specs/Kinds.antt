-- What a source of any kind means. Assumes nothing.
use Rattle.std.specs.Prelude.{◌^◌, ◌<◌, List, length}
use Rattle.source.specs.Items.{Placed, Ending}
use Rattle.source.specs.Limits.{AllWithin, EndingWithin}
use Rattle.source.specs.declared.head.Mark.{Mark}
use Rattle.text_source.specs.Lefts.{items_left as text_items, ending_left as text_ending, LeadsOn as TextLeads}
use Rattle.text_source.specs.Keeps.{items_keep, ending_keeps, items_few}
use Rattle.record_source.specs.Cursors.{items_left as record_items, ending_left as record_ending, LeadsOn as RecordLeads}
use Rattle.record_source.specs.Keeps.{left_within, left_ends, left_few}
use Rattle.sources.specs.declared.kind.AnySource.{AnySource}
use Rattle.sources.specs.declared.kind.AnySource.TheVariants.{Text, Records}

abbrev pub any_items : AnySource → List Placed
any_items (Text t) = text_items t
any_items (Records r) = record_items r

abbrev pub any_ending : AnySource → Ending
any_ending (Text t) = text_ending t
any_ending (Records r) = record_ending r

abbrev pub AnyLeads : AnySource → Mark → Type 0
AnyLeads (Text t) m = TextLeads t m
AnyLeads (Records r) m = RecordLeads r m

pub any_within : (s : AnySource) → AllWithin (any_items s)
any_within (Text t) = items_keep t
any_within (Records r) = left_within r.bytes.now r.mark.at r.mark.place r.mark.additions

pub any_ends : (s : AnySource) → EndingWithin (any_ending s)
any_ends (Text t) = ending_keeps t
any_ends (Records r) = left_ends r.bytes.now r.mark.at r.mark.place r.mark.additions

pub any_few : (s : AnySource) → length (any_items s) < 2 ^ 63
any_few (Text t) = items_few t
any_few (Records r) = left_few r.bytes.now r.mark.at r.mark.place r.mark.additions
