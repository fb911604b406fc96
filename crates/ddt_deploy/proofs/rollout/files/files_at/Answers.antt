use Rattle.ddt_deploy.proofs.rollout.files.files_at.Goals as goal

pub returns-clause-found : goal.returns-clause-found
returns-clause-found c = (c.in_ok-configs.configs.items, c.in_ok-configs.ensures.found, c.in_ok-files_of.ensures)
