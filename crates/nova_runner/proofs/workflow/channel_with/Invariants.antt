use Rattle.std.proofs.Common.{◌≡◌, map, drop}
use Rattle.nova_script.specs.Session.{place_from}
use Rattle.nova_workflow.specs.declared.flow.Channel.{Channel}
use Rattle.nova_runner.proofs.workflow.channel_with.Given as goal

abbrev pub invariant-loop-channel : goal.invariant-loop-channel
invariant-loop-channel l = record {
  same : l.channels ≡ l.fn.channels;
  place : l.place ≡ l.channel-index;
  rest : place_from 0 (map (λ (x : Channel). x.name) l.fn.channels) l.fn.name ≡ place_from l.channel-index (map (λ (x : Channel). x.name) (drop l.channel-index l.fn.channels)) l.fn.name;
}
