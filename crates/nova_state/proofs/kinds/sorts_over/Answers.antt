use Rattle.nova_state.proofs.kinds.sorts_over.Goals as goal
