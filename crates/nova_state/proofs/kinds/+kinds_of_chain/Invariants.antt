use Rattle.nova_state.proofs.kinds.+kinds_of_chain.Given as goal

abbrev pub decreases-kinds_of_chain : goal.decreases-kinds_of_chain
decreases-kinds_of_chain l = l.node
