use Rattle.std.proofs.Common.{arith}
use Rattle.ddt_daemon.specs.Recent.{most_recent}
use Rattle.ddt_daemon.proofs.RecentLemmas.{made}
use Rattle.ddt_daemon.proofs.recent_requests.RecentRequests.make_places.Goals as goal

pub returns-clause-same : goal.returns-clause-same
returns-clause-same c =
    made c.resize.result c.args.self.now.places.items c.resize.new.self.items most_recent _ (omega (arith, c.if-len-ge-MOST_REQUESTS.false, c.len.ensures)) c.resize.ensures.items
