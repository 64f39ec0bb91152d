-- `parent_of`: the parent of the entry that the search came to; where it came to the table's end, the root. Assumes nothing.
use Rattle.std.proofs.Common.{rules, tests}
use Rattle.std.proofs.lemmas.Iterator.{YieldsList-from_slice}
use Rattle.std.proofs.lemmas.Iterator.Search.{find_from_yields_List}
use Rattle.volume.specs.Volume.{no_entry}
use Rattle.volume.specs.Lookup.{parent_of, first_link, is_link}
use Rattle.volume.specs.declared.Entry.{Entry}
use Rattle.lookup.proofs.Search.{read_or}
use Rattle.lookup.proofs.climb.parent_of.Goals as goal

pub returns : goal.returns
unfolding parent_of first_link
returns c =
    read_or (is_link c.args.n) c.args.v.now.entries no_entry (λ (e : Entry). e.parent) _ _
    (find_from_yields_List _ _ _ _ c.find.ensures.ran (YieldsList-from_slice c.args.v.now.entries cc) (λ x b q k. search (rules, tests)))
    c.map_or.ensures (λ e k. search rules)
