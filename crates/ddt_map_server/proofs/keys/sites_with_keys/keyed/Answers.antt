use Rattle.std.proofs.Common.{◌≡◌, true, sym, subst, ◌∙◌}
use Rattle.std.specs.List.{list_any}
use Rattle.ddt_path.specs.Covers.{is_same_path}
use Rattle.ddt_config.specs.declared.site_entry.SiteEntry.{SiteEntry}
use Rattle.ddt_map_server.specs.Keys.KeyedSites.{keys_of}
use Rattle.ddt_map_server.proofs.KeysLemmas.KeyedLemmas.{ring-keys, keyed-has, keyed-none}
use Rattle.ddt_map_server.proofs.keys.sites_with_keys.keyed.Goals as goal
use Rattle.ddt_map_server.proofs.keys.sites_with_keys.keyed.Goals.{then-not-is_empty+in_ok-with_keys+in_ok-push, else-not-is_empty}

pub keys_at-keys-requires-clause-there : goal.keys_at-keys-requires-clause-there
keys_at-keys-requires-clause-there c =
    subst (λ (s : SiteEntry). list_any (λ r. is_same_path r.prefix s.prefix) c.args.keyrings.now ≡ true) (sym c.site-item.is)
    (c.requires.there c.loop-site.site-index c.site-item.result c.loop-site-test.true)

pub loop-site-preserved : goal.loop-site-preserved
loop-site-preserved c = λ keys prefixes are.
    let at = c.keys_at-keys.ensures in
    let s = c.site-item.result in
    let own = c.keys_at-keys.result.now in
    let is : own ≡ keys_of s.prefix keys = at.3 ∙ ring-keys keys prefixes c.args.keyrings.now at.0 s.prefix are at.1 at.2 in
    let before = c.loop-site.invariant keys prefixes are in
    elim c.if-not-is_empty.branch [
      | then-not-is_empty+in_ok-with_keys+in_ok-push w ↦
          let more = keyed-has keys c.args.sites.now c.loop-site.site-index s own c.loop-site-test.true c.site-item.is is (sym c.is_empty.ensures ∙ w.if-not-is_empty.true) in
          let pushed = w.in_ok-push.ensures.items in
          let made = w.in_ok-with_keys.ensures in
          let now = w.keyed-is in
          cc
      | else-not-is_empty w ↦
          let more = keyed-none keys c.args.sites.now c.loop-site.site-index s own c.loop-site-test.true c.site-item.is is (sym c.is_empty.ensures ∙ w.if-not-is_empty.false) in
          let now = w.keyed-is in
          cc
    ]
