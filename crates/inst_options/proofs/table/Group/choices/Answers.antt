use Rattle.std.proofs.Common.{ap, sym}
use Rattle.inst_options.specs.inner.Table.{rules_of}
use Rattle.inst_options.proofs.table.Group.choices.Goals as goal

pub returns-in-Hub : goal.returns-in-Hub
returns-in-Hub c = sym (ap rules_of c.in-Hub.is)

pub returns-in-Run : goal.returns-in-Run
returns-in-Run c = sym (ap rules_of c.in-Run.is)

pub returns-in-Drill : goal.returns-in-Drill
returns-in-Drill c = sym (ap rules_of c.in-Drill.is)

pub returns-in-Log : goal.returns-in-Log
returns-in-Log c = sym (ap rules_of c.in-Log.is)

pub returns-in-Next : goal.returns-in-Next
returns-in-Next c = sym (ap rules_of c.in-Next.is)

pub returns-in-Changes : goal.returns-in-Changes
returns-in-Changes c = sym (ap rules_of c.in-Changes.is)

pub returns-in-Explain : goal.returns-in-Explain
returns-in-Explain c = sym (ap rules_of c.in-Explain.is)
