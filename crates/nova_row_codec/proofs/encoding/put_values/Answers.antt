use Rattle.std.proofs.Common.{take}
use Rattle.nova_row_codec.specs.Spelling.{values_bytes}
use Rattle.nova_row_codec.proofs.Prefixes.{kept_after, on_err}
use Rattle.nova_row_codec.proofs.encoding.put_values.Goals as goal

pub returns-in_err-put_value-clause-kept : goal.returns-in_err-put_value-clause-kept
returns-in_err-put_value-clause-kept c = on_err c.from_residual.result (kept_after c.args.out.now.items (values_bytes (take c.loop-value.value-index c.args.values.now)) c.loop-value.out.items c.put_value.new.out.items c.loop-value.invariant c.in_err-put_value.ensures.kept)
