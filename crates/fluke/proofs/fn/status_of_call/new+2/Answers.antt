use Rattle.fluke.proofs.fn.status_of_call.new+2.Goals as goal

pub returns : goal.returns
returns c = c.feed.ensures c.args._request.now
