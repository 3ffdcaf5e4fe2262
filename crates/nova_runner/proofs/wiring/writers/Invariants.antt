use Rattle.std.proofs.Common.{◌≡◌, map, take}
use Rattle.nova_workflow.specs.declared.flow.Channel.{Channel}
use Rattle.nova_runner.proofs.wiring.writers.Given as goal

abbrev pub invariant-loop-channel : goal.invariant-loop-channel
invariant-loop-channel l = record {
  channels : l.channels ≡ l.fn.channels;
  writers : l.writers.items ≡ map (λ (x : Channel). x.writer) (take l.channel-index l.fn.channels);
}
