-- The line that tells why a workflow's text is refused: each cause by its number and its word. Want of memory is told by none of them.
use Rattle.std.specs.Prelude.{ℕ, List, Some, None, codes}
use Rattle.nova_flow.specs.declared.fault.FlowFault.{FlowFault}
use Rattle.nova_flow.specs.declared.fault.FlowFault.TheVariants as flow
use Rattle.nova_pig_parse.specs.declared.text.ParseFault.{ParseFault}
use Rattle.nova_pig_parse.specs.declared.text.ParseFault.TheVariants as parse
use Rattle.nova_pig_plan.specs.declared.fault.PlanFault.{PlanFault}
use Rattle.nova_pig_plan.specs.declared.fault.PlanFault.TheVariants as plan
use Rattle.nova_admit.specs.declared.script.ScriptFault.{ScriptFault}
use Rattle.nova_admit.specs.declared.script.ScriptFault.TheVariants as script
use Rattle.nova_admit.specs.declared.fault.AdmitFault.{AdmitFault}
use Rattle.nova_admit.specs.declared.fault.AdmitFault.TheVariants as admit
use Rattle.nova_script.specs.Replies.{flow_refused, task_refused, script_refused}
use Rattle.nova_runner.specs.declared.text.TextFault.{TextFault}
use Rattle.nova_runner.specs.declared.text.TextFault.TheVariants as fault

-- what stands for want of memory, which no text is refused for
abbrev pub memory_line : List ℕ
memory_line = flow_refused 11 (codes "no-memory") None

abbrev pub flow_line : FlowFault → List ℕ
flow_line flow.Toml = flow_refused 1 (codes "toml") None
flow_line (flow.UnknownWord name) = flow_refused 2 (codes "unknown-word") (Some name)
flow_line (flow.Missing name) = flow_refused 3 (codes "missing") (Some name)
flow_line (flow.BadName name) = flow_refused 4 (codes "bad-name") (Some name)
flow_line (flow.BadColumn channel) = flow_refused 5 (codes "bad-column") (Some channel)
flow_line (flow.BadKey channel) = flow_refused 6 (codes "bad-key") (Some channel)
flow_line (flow.TooMany name) = flow_refused 7 (codes "too-many") (Some name)
flow_line (flow.NamedLater task) = flow_refused 8 (codes "named-later") (Some task)
flow_line (flow.TwoWriters channel) = flow_refused 9 (codes "two-writers") (Some channel)
flow_line (flow.BadTrigger task) = flow_refused 10 (codes "bad-trigger") (Some task)
flow_line flow.NoMemory = memory_line

abbrev pub parse_line : List ℕ → ParseFault → List ℕ
parse_line task (parse.Token at) = script_refused task (codes "parse") 1 (Some at)
parse_line task (parse.Syntax at) = script_refused task (codes "parse") 2 (Some at)
parse_line task parse.TooLong = script_refused task (codes "parse") 3 None
parse_line task (parse.TooDeep at) = script_refused task (codes "parse") 4 (Some at)
parse_line task (parse.NumberTooLarge at) = script_refused task (codes "parse") 5 (Some at)
parse_line task parse.NoMemory = memory_line

abbrev pub statement_line : List ℕ → ℕ → ℕ → List ℕ
statement_line task number n = script_refused task (codes "plan") number (Some n)

abbrev pub plan_line : List ℕ → PlanFault → List ℕ
plan_line task (plan.UnknownAlias n) = statement_line task 1 n
plan_line task (plan.UnknownField n) = statement_line task 2 n
plan_line task (plan.Ambiguous n) = statement_line task 3 n
plan_line task (plan.WrongType n) = statement_line task 4 n
plan_line task (plan.SchemaDiffers n) = statement_line task 5 n
plan_line task (plan.UnknownChannel n) = statement_line task 6 n
plan_line task (plan.TooWide n) = statement_line task 7 n
plan_line task (plan.BagMisused n) = statement_line task 8 n
plan_line task (plan.NoStore n) = statement_line task 9 n
plan_line task (plan.AliasTwice n) = statement_line task 10 n
plan_line task plan.NoMemory = memory_line

abbrev pub script_line : List ℕ → ScriptFault → List ℕ
script_line task (script.Parse why) = parse_line task why
script_line task (script.Plan why) = plan_line task why

abbrev pub admit_line : AdmitFault → List ℕ
admit_line (admit.Script task why) = script_line task why
admit_line (admit.NoKey task) = task_refused 2 (codes "no-key") task None
admit_line (admit.KeyDiffers task) = task_refused 3 (codes "key-differs") task None
admit_line (admit.BaseReadAsNew task channel) = task_refused 4 (codes "base-read-as-new") task (Some channel)
admit_line (admit.NotAPattern task) = task_refused 5 (codes "not-a-pattern") task None
admit_line admit.NoMemory = memory_line

abbrev pub refused_line : TextFault → List ℕ
refused_line (fault.Flow why) = flow_line why
refused_line (fault.Admit why) = admit_line why
