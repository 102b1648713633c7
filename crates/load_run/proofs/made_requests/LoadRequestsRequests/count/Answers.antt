use Rattle.std.proofs.Common.{◌-◌, sym}
use Rattle.load_run.proofs.Made.{made_long}
use Rattle.load_run.proofs.made_requests.LoadRequestsRequests.count.Goals as goal

pub returns : goal.returns
returns c = sym (made_long c.args.self.now.start c.args.self.now.next (c.args.self.now.end - c.args.self.now.next))
