use Rattle.ddt_deploy.specs.Export.Blocks.{referral_text}
use Rattle.ddt_deploy.proofs.ExportLemmas.AppendLemmas.{appended_four}
use Rattle.ddt_deploy.proofs.export.blocks.push_referral.Goals as goal

pub returns : goal.returns
unfolding referral_text
returns c =
    appended_four _ _ _ _ _ _ _ _ _ c.in_ok-push_front.ensures c.in_ok-push_type_line.ensures
    c.in_ok-push_nodes_line.ensures c.in_ok-push_closing.ensures
