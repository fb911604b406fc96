-- The table of a configuration with its seal is that of the same configuration.
use Rattle.std.proofs.Common.{◌≡◌, ◌≤◌, ℕ, List, Some, Ok, refl, arith, ap, sym, ◌∙◌}
use Rattle.toml.specs.Data.{Members, members_depth}
use Rattle.toml.specs.Parse.{parse_document}
use Rattle.ddt_config.specs.Table.{Outline, config_in, config_in_document, config_in_text}
use Rattle.ddt_config.specs.Writing.{written_config}
use Rattle.ddt_config.specs.declared.digest.seal.Seal.{Seal}
use Rattle.ddt_config.specs.Digest.Sealed.{with_seal}

-- the keys of a seal are none of a configuration's
pub same_config : (o : Outline) (s : Seal) → config_in (with_seal s (written_config o)) ≡ config_in (written_config o)
same_config o s = refl

pub same_depth : (o : Outline) (s : Seal) → members_depth (written_config o) ≤ 5 → members_depth (with_seal s (written_config o)) ≤ 80
same_depth o s h = omega (arith, h)

-- the printed table with a seal is read back
pub read_back : (o : Outline) (s : Seal) (text : List ℕ) (ms ns : Members) → ms ≡ written_config o → ns ≡ with_seal s ms → members_depth ms ≤ 5
    → config_in ms ≡ Ok o → (members_depth ns ≤ 80 → parse_document text ≡ Some ns) → (parse_document text ≡ Some (with_seal s (written_config o))) × (config_in_text text ≡ Ok o)
read_back o s text ms ns is put depth stands back =
    let whole : ns ≡ with_seal s (written_config o) = put ∙ ap (with_seal s) is in
    let shallow : members_depth (with_seal s (written_config o)) ≤ 80 = same_depth o s (omega (arith, sym (ap (λ m. members_depth m) is), depth)) in
    let fits : members_depth ns ≤ 80 = omega (arith, ap (λ m. members_depth m) whole, shallow) in
    let parsed : parse_document text ≡ Some (with_seal s (written_config o)) = back fits ∙ ap Some whole in
    (parsed, ap config_in_document parsed ∙ same_config o s ∙ sym (ap (λ m. config_in m) is) ∙ stands)
