use Rattle.std.proofs.Common.{◌++◌, ◌∷◌, ◌+◌, List, [], map, refl, sym, ap, ◌∙◌}
use Rattle.std.specs.List.{range_with_len}
use Rattle.std.proofs.lemmas.List.FromFn.{map-range_with_len_more}
use Rattle.ddt_path.specs.declared.locator.Locator.{Locator}
use Rattle.ddt_deploy.specs.Loopback.Addresses.{server_address}
use Rattle.ddt_deploy.proofs.loopback.address.server_addresses.Goals as goal

pub loop-place-preserved : goal.loop-place-preserved
loop-place-preserved c =
    let first = c.args.first in
    let place = c.loop-place.place in
    c.in_ok-push.ensures.items
    ∙ ap (λ (ls : List Locator). ls ++ c.server_address.result ∷ []) c.loop-place.invariant
    ∙ ap (λ (l : Locator). map server_address (range_with_len first place) ++ l ∷ []) c.server_address.ensures
    ∙ sym (map-range_with_len_more server_address first place (first + place) refl)
