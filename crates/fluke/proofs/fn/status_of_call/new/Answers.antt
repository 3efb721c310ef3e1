use Rattle.fluke.proofs.fn.status_of_call.new.Goals as goal

pub returns : goal.returns
returns c = c.echo.ensures c.args._config.now c.args._position
