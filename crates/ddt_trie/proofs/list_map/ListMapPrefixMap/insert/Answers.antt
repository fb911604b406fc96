use Rattle.std.proofs.Common.{Some, sym, ◌∙◌, ap}
use Rattle.ddt_trie.specs.laws.Entry.{placed, absent, key_at, get_at, get_absent, set_distinct, set_inserts, push_keeps_distinct, push_inserts, is_some_absent}
use Rattle.ddt_trie.proofs.list_map.ListMapPrefixMap.insert.Goals as goal

pub invariant_of-self : goal.invariant_of-self
invariant_of-self g c =
    let es = c.args.self.now.entries.items in
    let place = placed _ es c.args.prefix _ _ c.deref.ensures.value c.place_of.ensures c.in-Some.is in
    record { distinct = set_distinct es _ c.args.prefix _ _ c.args.self.now.distinct place (key_at es _ c.args.prefix _ place c.index_mut.ensures.value) }

pub returns-in-Some-clause-before : goal.returns-in-Some-clause-before
returns-in-Some-clause-before g c =
    let es = c.args.self.now.entries.items in
    let place = placed _ es c.args.prefix _ _ c.deref.ensures.value c.place_of.ensures c.in-Some.is in
    ap Some c.replace.ensures.value ∙ sym (get_at es _ c.args.prefix _ c.args.self.now.distinct place c.index_mut.ensures.value)

pub returns-in-Some-clause-inserted : goal.returns-in-Some-clause-inserted
returns-in-Some-clause-inserted g c =
    let es = c.args.self.now.entries.items in
    let place = placed _ es c.args.prefix _ _ c.deref.ensures.value c.place_of.ensures c.in-Some.is in
    set_inserts es _ c.args.prefix _ _ _ c.args.self.now.distinct place (key_at es _ c.args.prefix _ place c.index_mut.ensures.value) c.replace.ensures.after

pub invariant_of-self-in-None : goal.invariant_of-self-in-None
invariant_of-self-in-None g c =
    let es = c.args.self.now.entries.items in
    record {
      distinct = push_keeps_distinct es c.push.new.self.items c.args.prefix c.args.value _ c.args.self.now.distinct
          (absent _ es c.args.prefix _ c.deref.ensures.value c.place_of.ensures c.in-None.is) c.push.ensures.items;
    }

pub returns-in-Ok-clause-before : goal.returns-in-Ok-clause-before
returns-in-Ok-clause-before g c =
    let es = c.args.self.now.entries.items in
    sym (get_absent es c.args.prefix (absent _ es c.args.prefix _ c.deref.ensures.value c.place_of.ensures c.in-None.is))

pub returns-in-Ok-clause-inserted : goal.returns-in-Ok-clause-inserted
returns-in-Ok-clause-inserted g c =
    let es = c.args.self.now.entries.items in
    push_inserts es _ c.args.prefix c.args.value (absent _ es c.args.prefix _ c.deref.ensures.value c.place_of.ensures c.in-None.is) c.in-Ok.ensures.items

pub returns-in-Err-clause-replaced : goal.returns-in-Err-clause-replaced
returns-in-Err-clause-replaced g c =
    let es = c.args.self.now.entries.items in
    is_some_absent es c.args.prefix (absent _ es c.args.prefix _ c.deref.ensures.value c.place_of.ensures c.in-None.is)
