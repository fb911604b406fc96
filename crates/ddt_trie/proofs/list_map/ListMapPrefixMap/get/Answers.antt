use Rattle.std.proofs.Common.{sym, ◌∙◌, ap}
use Rattle.std.specs.Option.{option_copied}
use Rattle.ddt_trie.specs.laws.Entry.{placed, absent, get_at, get_absent}
use Rattle.ddt_trie.proofs.list_map.ListMapPrefixMap.get.Goals as goal

pub returns-in_err-at : goal.returns-in_err-at
returns-in_err-at g c =
    ap option_copied c.from_residual.ensures ∙ sym (get_absent _ c.args.prefix
    (absent _ _ c.args.prefix _ c.deref.ensures.value c.place_of.ensures c.in_err-at.was))

pub returns : goal.returns
returns g c =
    sym (get_at _ _ c.args.prefix c.index.result.now c.args.self.now.distinct
    (placed _ _ c.args.prefix _ _ c.deref.ensures.value c.place_of.ensures c.in_ok-at.was) c.index.ensures)
