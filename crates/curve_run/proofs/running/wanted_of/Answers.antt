use Rattle.curve_run.proofs.running.wanted_of.Goals as goal

pub returns-clause-tells : goal.returns-clause-tells
returns-clause-tells g c = c.find.ensures.found.tells

pub returns-clause-usage : goal.returns-clause-usage
returns-clause-usage g c = c.find.ensures.found.usage

pub returns-clause-there : goal.returns-clause-there
returns-clause-there g c = c.find.ensures.found.there

pub returns-clause-before : goal.returns-clause-before
returns-clause-before g c = c.find.ensures.found.before

pub returns-clause-read : goal.returns-clause-read
returns-clause-read g c = c.find.ensures.found.read

pub returns-clause-absent : goal.returns-clause-absent
returns-clause-absent g c = c.find.ensures.found.absent

pub returns-clause-counted : goal.returns-clause-counted
returns-clause-counted g c = c.find.ensures.found.counted

pub returns-clause-files : goal.returns-clause-files
returns-clause-files g c = c.find.ensures.found.files

pub returns-clause-calls : goal.returns-clause-calls
returns-clause-calls g c = c.find.ensures.found.calls
