use Rattle.std.proofs.Common.{sym, ◌∙◌}
use Rattle.ddt_trie.specs.laws.Entry.{placed, absent, get_at, get_absent, remove_distinct, remove_removes, remove_absent}
use Rattle.ddt_trie.proofs.list_map.ListMapPrefixMap.remove.Goals as goal

pub returns-in_err-at-clause-before : goal.returns-in_err-at-clause-before
returns-in_err-at-clause-before g c =
    let es = c.args.self.now.entries.items in
    c.from_residual.ensures ∙ sym (get_absent es c.args.prefix (absent _ es c.args.prefix _ c.deref.ensures.value c.place_of.ensures c.in_err-at.was))

pub returns-in_err-at-clause-removed : goal.returns-in_err-at-clause-removed
returns-in_err-at-clause-removed g c =
    let es = c.args.self.now.entries.items in
    remove_absent es c.args.prefix (absent _ es c.args.prefix _ c.deref.ensures.value c.place_of.ensures c.in_err-at.was)

pub invariant_of-self : goal.invariant_of-self
invariant_of-self g c =
    let es = c.args.self.now.entries.items in
    let place = placed _ es c.args.prefix _ _ c.deref.ensures.value c.place_of.ensures c.in_ok-at.was in
    record { distinct = remove_distinct es c.remove.new.self.items _ c.args.prefix c.args.self.now.distinct place c.remove.ensures.items }

pub returns-clause-before : goal.returns-clause-before
returns-clause-before g c =
    let es = c.args.self.now.entries.items in
    let place = placed _ es c.args.prefix _ _ c.deref.ensures.value c.place_of.ensures c.in_ok-at.was in
    sym (get_at es _ c.args.prefix _ c.args.self.now.distinct place c.remove.ensures.value)

pub returns-clause-removed : goal.returns-clause-removed
returns-clause-removed g c =
    let es = c.args.self.now.entries.items in
    let place = placed _ es c.args.prefix _ _ c.deref.ensures.value c.place_of.ensures c.in_ok-at.was in
    remove_removes es _ _ c.args.prefix c.args.self.now.distinct place c.remove.ensures.items
