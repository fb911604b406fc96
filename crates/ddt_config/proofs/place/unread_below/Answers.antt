use Rattle.std.proofs.Common.{◌∙◌, ap}
use Rattle.std.specs.Prelude.{is_ok}
use Rattle.std.specs.Option.{option_map}
use Rattle.ddt_config.specs.declared.place.Place.TheVariants.{Child, Site}
use Rattle.ddt_config.specs.Table.{child_in, site_in}
use Rattle.ddt_config.specs.Place.{first_unread}
use Rattle.ddt_config.proofs.place.unread_below.Goals as goal

pub returns-in_ok-child-in-Node : goal.returns-in_ok-child-in-Node
returns-in_ok-child-in-Node c =
    rw c.in-Node.is
    (ap (option_map (λ found. (Child c.args.authority found.0, found.1)))
    (c.in_ok-child-in-Node.ensures ∙ ap (first_unread (λ child. is_ok (child_in child)) 1) c.those_at.ensures))

pub returns-in_ok-site-in-Ms : goal.returns-in_ok-site-in-Ms
returns-in_ok-site-in-Ms c =
    rw c.in-Ms.is
    (ap (option_map (λ found. (Site c.args.authority found.0, found.1)))
    (c.in_ok-site-in-Ms.ensures ∙ ap (first_unread (λ site. is_ok (site_in site)) 1) c.those_at-in-Ms.ensures))
