-- Each workflow of a text keeps what a workflow keeps.
use Rattle.std.proofs.Common.{◌≡◌, ℕ, ◌+◌, ◌≤◌, nat_le, List, [], length, Ok, codes, refl, subst, arith}
use Rattle.toml.specs.Data.{Data}
use Rattle.nova_workflow.specs.declared.flow.Flow.{Flow}
use Rattle.nova_flow.specs.declared.fault.FlowFault.TheVariants as fault
use Rattle.nova_flow.specs.Answers.{◌>>=◌}
use Rattle.nova_flow.specs.Rules.{only, tables_needed, tables_if_there, at_most, at_least_one}
use Rattle.nova_flow.specs.Channels.{channels_of}
use Rattle.nova_flow.specs.Tasks.{tasks_of}
use Rattle.nova_flow.specs.Wiring.{all_settled, all_wired}
use Rattle.nova_flow.specs.Flows.{document_needed, channels_needed, top_keys, flow_of_document, flow_of}
use Rattle.nova_workflow.specs.Whole.{IsFlow, IsTask}
use Rattle.nova_flow.specs.Whole.{FlowsAreWhole}
use Rattle.nova_flow.proofs.Binds.{bind_ok, ok_ok, require_ok, some_item}
use Rattle.nova_flow.proofs.WholeChannels.{within_limit, channels_ok}
use Rattle.nova_flow.proofs.WholeTasks.{tasks_ok}
use Rattle.nova_flow.proofs.WholeWiring.{made_of, made_length, tasks_whole, tasks_once, wired_length, channels_whole, channels_once}

needed_ok : (d : Data) (ds : List Data) → channels_needed d ≡ Ok ds → 1 ≤ length ds
needed_ok d ds e =
    let s0 = bind_ok (tables_needed (codes "channel") d) (λ channels. at_least_one (fault.Missing (codes "channel")) channels >>= λ _. Ok channels) ds e in
    let channels = s0.0 in
    let s1 = bind_ok (at_least_one (fault.Missing (codes "channel")) channels) (λ _. Ok channels) ds s0.2 in
    subst (λ (x : List Data). 1 ≤ length x) (ok_ok channels ds s1.2) (some_item (fault.Missing (codes "channel")) channels s1.0 s1.1)

document_ok : (d : Data) (f : Flow) → flow_of_document d ≡ Ok f → IsFlow f
document_ok d f e =
    let s0 = bind_ok (only top_keys d) (λ _. channels_needed d >>= λ channels. tables_if_there (codes "task") d >>= λ tasks. at_most (codes "channel") 256 (length channels) >>= λ _. at_most (codes "task") 256 (length tasks) >>= λ _. channels_of channels >>= λ cs. tasks_of cs tasks >>= λ stated. all_settled cs stated >>= λ ts. Ok (record { channels = all_wired ts 0 cs; tasks = ts })) f e in
    let s1 = bind_ok (channels_needed d) (λ channels. tables_if_there (codes "task") d >>= λ tasks. at_most (codes "channel") 256 (length channels) >>= λ _. at_most (codes "task") 256 (length tasks) >>= λ _. channels_of channels >>= λ cs. tasks_of cs tasks >>= λ stated. all_settled cs stated >>= λ ts. Ok (record { channels = all_wired ts 0 cs; tasks = ts })) f s0.2 in
    let channels = s1.0 in
    let s2 = bind_ok (tables_if_there (codes "task") d) (λ tasks. at_most (codes "channel") 256 (length channels) >>= λ _. at_most (codes "task") 256 (length tasks) >>= λ _. channels_of channels >>= λ cs. tasks_of cs tasks >>= λ stated. all_settled cs stated >>= λ ts. Ok (record { channels = all_wired ts 0 cs; tasks = ts })) f s1.2 in
    let tasks = s2.0 in
    let s3 = bind_ok (at_most (codes "channel") 256 (length channels)) (λ _. at_most (codes "task") 256 (length tasks) >>= λ _. channels_of channels >>= λ cs. tasks_of cs tasks >>= λ stated. all_settled cs stated >>= λ ts. Ok (record { channels = all_wired ts 0 cs; tasks = ts })) f s2.2 in
    let s4 = bind_ok (at_most (codes "task") 256 (length tasks)) (λ _. channels_of channels >>= λ cs. tasks_of cs tasks >>= λ stated. all_settled cs stated >>= λ ts. Ok (record { channels = all_wired ts 0 cs; tasks = ts })) f s3.2 in
    let s5 = bind_ok (channels_of channels) (λ cs. tasks_of cs tasks >>= λ stated. all_settled cs stated >>= λ ts. Ok (record { channels = all_wired ts 0 cs; tasks = ts })) f s4.2 in
    let cs = s5.0 in
    let s6 = bind_ok (tasks_of cs tasks) (λ stated. all_settled cs stated >>= λ ts. Ok (record { channels = all_wired ts 0 cs; tasks = ts })) f s5.2 in
    let stated = s6.0 in
    let s7 = bind_ok (all_settled cs stated) (λ ts. Ok (record { channels = all_wired ts 0 cs; tasks = ts })) f s6.2 in
    let ts = s7.0 in
    let few : length channels ≤ 256 = within_limit (length channels) 256 (require_ok (fault.TooMany (codes "channel")) (nat_le (length channels) 256) s3.0 s3.1) in
    let few_tasks : length tasks ≤ 256 = within_limit (length tasks) 256 (require_ok (fault.TooMany (codes "task")) (nat_le (length tasks) 256) s4.0 s4.1) in
    let c = channels_ok channels cs s5.1 in
    let t = tasks_ok cs tasks stated s6.1 in
    let m = made_of cs stated ts s7.1 in
    let count = wired_length ts 0 cs in
    let some = needed_ok d channels s1.1 in
    let whole : Flow = record { channels = all_wired ts 0 cs; tasks = ts } in
    let number : (k : ℕ) → 0 + k ≡ k = λ k. omega arith in
    subst IsFlow (ok_ok whole f s7.2) (record {
      some_channel = omega (arith, some, c.counted, count);
      few_channels = omega (arith, few, c.counted, count);
      few_tasks = omega (arith, few_tasks, t.counted, made_length [] stated ts m);
      channels = channels_whole whole cs c.each;
      channels_once = channels_once ts cs c.once;
      tasks = λ k x h. subst (λ (j : ℕ). IsTask whole j x) (number k) (tasks_whole whole (length cs) [] stated ts refl count m t.each k x h);
      tasks_once = tasks_once stated ts m t.once;
    })

pub flows_are_whole : FlowsAreWhole
unfolding flow_of
flows_are_whole text f e =
    let s0 = bind_ok (at_most (codes "text") 1048576 (length text)) (λ _. document_needed text >>= λ d. flow_of_document d) f e in
    let s1 = bind_ok (document_needed text) (λ d. flow_of_document d) f s0.2 in
    let d = s1.0 in
    document_ok d f s1.2
