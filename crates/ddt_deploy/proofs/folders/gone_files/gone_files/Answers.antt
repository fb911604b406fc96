use Rattle.std.proofs.Common.{◌≡◌, ℕ, List, [], Option, sym, ap, subst, ◌∙◌, rules, Bool, ◌++◌, Some, None, refl}
use Rattle.std.specs.Prelude.{◌&&◌, not, unwrap_or}
use Rattle.std.specs.BTreeSet.{contains}
use Rattle.std.specs.Cmp.Lexicographic.{slice_cmp}
use Rattle.std.specs.Ordering.{nat_cmp}
use Rattle.std.specs.Option.{is_some, option_map}
use Rattle.std.specs.List.{flat_map}
use Rattle.std.proofs.lemmas.List.{map-id}
use Rattle.std.proofs.lemmas.Iterator.Consumers.{YieldsList-end, YieldsList-from_rest}
use Rattle.ddt_register.specs.declared.group.Group.{Group}
use Rattle.ddt_check.specs.Zones.{group_named}
use Rattle.ddt_deploy.specs.declared.folders.file_name.FileName.TheVariants.{Config}
use Rattle.ddt_deploy.specs.Folders.Manifest.{AreConfigsIn}
use Rattle.ddt_deploy.specs.Folders.Wanted.{altered_for, altered_if, gone_for, gone_if, listed_of, our_group}
use Rattle.ddt_deploy.proofs.FoldersLemmas.ListLemmas.{flat_more}
use Rattle.ddt_deploy.proofs.FoldersLemmas.OurLemmas.{is_ours}
use Rattle.ddt_deploy.proofs.folders.gone_files.gone_files.Goals as goal

is_some_map : (o : Option Group) → is_some (option_map (λ (g : Group). g.locators) o) ≡ is_some o
is_some_map None = refl
is_some_map (Some g) = refl

pub loop-name-preserved : goal.loop-name-preserved
loop-name-preserved g c = λ s h.
    let before = c.loop-name.invariant s h in
    let step = c.in_ok-add_gone.ensures s before.0 in
    let entry : List ℕ × List ℕ = (c.in-Some.name, c.in-Some.digits) in
    let found = s.files (Config entry.0) in
    let ours = λ (name : List ℕ). contains (slice_cmp nat_cmp) c.args.foreign.now name in
    let known : c.is_our_group-is_ours.result ≡ is_some (our_group ours c.args.accepted.now entry.0) =
    c.is_our_group-is_ours.ensures ∙ ap (λ (b : Bool). b && not (ours entry.0)) (ap is_some (c.in_ok-groups.ensures entry.0)
    ∙ is_some_map (group_named c.args.accepted.now entry.0)) ∙ sym (is_ours ours c.args.accepted.now entry.0) in
    let gone = subst (λ (b : Bool). c.add_gone.new.gone.files.items
    ≡ c.loop-name.gone.files.items ++ gone_if b (listed_of entry) found) known step.1.0 in
    let altered = subst (λ (b : Bool). c.add_gone.new.gone.altered.items
    ≡ c.loop-name.gone.altered.items ++ altered_if b (listed_of entry) found) known step.1.1 in (
      step.0,
      flat_more (gone_for ours c.args.accepted.now s.files) [] c.loop-name.gone.files.items c.add_gone.new.gone.files.items
          c.loop-name.yielded entry before.1 gone,
      flat_more (altered_for ours c.args.accepted.now s.files) [] c.loop-name.gone.altered.items
          c.add_gone.new.gone.altered.items c.loop-name.yielded entry before.2 altered,
    )

pub returns : goal.returns
returns g c = λ s h.
    let ours = λ (name : List ℕ). contains (slice_cmp nat_cmp) c.args.foreign.now name in
    let read = c.in_ok-manifest.ensures s h in
    let at = c.loop-name.invariant s read.0 in
    let last = c.in_ok-listed.listed in
    let all = YieldsList-end (YieldsList-from_rest last.entries (search rules)) c.loop-name.yielded
    c.loop-name.name-iterator c.loop-name.yielded_by c.next.result c.next.new.self c.in-None.is c.next.ensures.steps in
    let yielded : c.loop-name.yielded ≡ last.entries = sym (map-id c.loop-name.yielded) ∙ all.0 in (
      at.0,
      record {
        last = last;
        listed = subst (λ (m : List ℕ). AreConfigsIn m last) (ap (λ (o : Option (List ℕ)). unwrap_or o []) (sym read.1))
            c.in_ok-listed.ensures;
        in_order = c.into_iter-name-iterator.ensures.into_iter_gives.5;
        are = at.1 ∙ ap (flat_map (gone_for ours c.args.accepted.now s.files)) yielded;
        are_altered = at.2 ∙ ap (flat_map (altered_for ours c.args.accepted.now s.files)) yielded;
      },
    )
