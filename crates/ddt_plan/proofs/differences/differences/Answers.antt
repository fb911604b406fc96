use Rattle.std.proofs.Common.{List, ℕ, subst, rules}
use Rattle.ddt_path.specs.laws.Member.{IsIn, moved_in}
use Rattle.ddt_plan.specs.Fast.{delegations_of, states_of}
use Rattle.ddt_plan.specs.Differing.{AreMarkedAll}
use Rattle.ddt_plan.proofs.SideLemmas.{delegation_prefix, state_prefix}
use Rattle.ddt_plan.proofs.AgreeLemmas.{marked_moved}
use Rattle.ddt_plan.proofs.differences.differences.Goals as goal

pub returns : goal.returns
returns c q =
    let r = c.args.before.now in
    let s = c.args.after.now in
    let old_zones = c.args.earlier.now.zones.items in
    let new_zones = c.args.later.now.zones.items in
    let old_sites = c.args.earlier.now.sites.items in
    let new_sites = c.args.later.now.sites.items in
    let made = c.sort_unstable.new.self.items in
    let fourth : (p : List ℕ) → IsIn p c.in_ok-all.all.items → IsIn p made = λ p k. moved_in c.in_ok-all.all.items made c.sort_unstable.ensures.permutation p k in
    let third : (p : List ℕ) → IsIn p c.in_ok-sites_gone.sites_gone.items → IsIn p made = λ p k. fourth p ((c.in_ok-all.ensures).0 p k) in
    let second : (p : List ℕ) → IsIn p c.in_ok-zones.zones.items → IsIn p made = λ p k. third p ((c.in_ok-sites_gone.ensures).0 p k) in
    let first : (p : List ℕ) → IsIn p c.in_ok-zones_gone.zones_gone.items → IsIn p made = λ p k. second p ((c.in_ok-zones.ensures).0 p k) in
    let of_old = c.requires.earlier in
    let of_new = c.requires.later in
    record {
      zones_gone = marked_moved delegation_prefix (delegations_of r) old_zones (delegations_of s) new_zones c.in_ok-zones_gone.zones_gone.items made of_old.zones of_new.zones first
          (subst (λ xs. AreMarkedAll delegation_prefix xs new_zones c.in_ok-zones_gone.zones_gone.items) c.as_slice-old_zones.ensures.value
          (subst (λ ys. AreMarkedAll delegation_prefix c.as_slice-old_zones.result.now ys c.in_ok-zones_gone.zones_gone.items) c.as_slice-new_zones.ensures.value (c.in_ok-zones_gone.ensures).1)) q;
      zones_new = marked_moved delegation_prefix (delegations_of s) new_zones (delegations_of r) old_zones c.in_ok-zones.zones.items made of_new.zones of_old.zones second
          (subst (λ xs. AreMarkedAll delegation_prefix xs old_zones c.in_ok-zones.zones.items) c.as_slice-new_zones.ensures.value
          (subst (λ ys. AreMarkedAll delegation_prefix c.as_slice-new_zones.result.now ys c.in_ok-zones.zones.items) c.as_slice-old_zones.ensures.value (let marked = (c.in_ok-zones.ensures).1 in search rules))) q;
      sites_gone = marked_moved state_prefix (states_of r) old_sites (states_of s) new_sites c.in_ok-sites_gone.sites_gone.items made of_old.sites of_new.sites third
          (subst (λ xs. AreMarkedAll state_prefix xs new_sites c.in_ok-sites_gone.sites_gone.items) c.as_slice-old_sites.ensures.value
          (subst (λ ys. AreMarkedAll state_prefix c.as_slice-old_sites.result.now ys c.in_ok-sites_gone.sites_gone.items) c.as_slice-new_sites.ensures.value (c.in_ok-sites_gone.ensures).1)) q;
      sites_new = marked_moved state_prefix (states_of s) new_sites (states_of r) old_sites c.in_ok-all.all.items made of_new.sites of_old.sites fourth
          (subst (λ xs. AreMarkedAll state_prefix xs old_sites c.in_ok-all.all.items) c.as_slice-new_sites.ensures.value
          (subst (λ ys. AreMarkedAll state_prefix c.as_slice-new_sites.result.now ys c.in_ok-all.all.items) c.as_slice-old_sites.ensures.value (c.in_ok-all.ensures).1)) q;
      in_order = c.sort_unstable.ensures.sorted;
    }
