use Rattle.std.proofs.Common.{inr, ◌≡◌, ◌∙◌, ◌+◌, ◌*◌, ◌<◌, ◌^◌, ◌∷◌, [], List, Some, length, option_map, ap, arith}
use Rattle.nova_outside.specs.Disk.{overlaid, TornFrom}
use Rattle.nova_outside.specs.History.{Event, Outcome, current}
use Rattle.nova_outside.specs.History.Change.{Created, Written}
use Rattle.nova_outside.proofs.Outcomes.{read_here, read_other, created_fits, written_fits, free_start, free_call, free_then}
use Rattle.nova_journal.proofs.Generations.{mark_apart}
use Rattle.nova_journal.proofs.Outcomes.{short_payload, created_done}
use Rattle.nova_journal.proofs.journal.Journal.create.Goals as goal

pub returns-clause-made : goal.returns-clause-made
returns-clause-made g c honest payload is =
    let H = g.H.Host in
    let x = c.args.generation in
    let file = 4 * x in
    let framed = c.args.framed.now in
    let fits : length framed < 2 ^ 64 = omega arith in
    let h0 = H.history c.args.host.now in
    let h1 = H.history c.create.new.self in
    let h2 = H.history c.write.new.self in
    let made = c.in_ok-create.ensures.ok honest in
    let wrote = c.in_ok-write.ensures.ok honest in
    let empty : current h1 file ≡ Some [] = ap (λ (h : List Event). current h file) made ∙ read_here Created file (Some []) h0 in
    let gate : current h2 file ≡ Some (1 ∷ []) = ap (λ (h : List Event). current h file) wrote ∙ read_here (Written 0 1) file (option_map (overlaid 0 (1 ∷ [])) (current h1 file)) h1 ∙ ap (option_map (overlaid 0 (1 ∷ []))) empty in
    let body = c.in_ok-write_through.ensures.written honest ∙ ap (option_map (overlaid 1 framed)) gate in
    record {
      log = created_done payload framed (current (H.history c.write_through.new.host) file) is (short_payload payload framed is fits) body;
      newest = λ y lt.
          let mark = 4 * y + 1 in
          c.write_through.ensures.others honest mark (mark_apart x y)
          ∙ (ap (λ (h : List Event). current h mark) wrote ∙ read_other (Written 0 1) file mark (option_map (overlaid 0 (1 ∷ [])) (current h1 file)) h1 (mark_apart x y))
          ∙ (ap (λ (h : List Event). current h mark) made ∙ read_other Created file mark (Some []) h0 (mark_apart x y))
          ∙ c.requires.unmarked honest y (omega (arith, lt));
    }

pub returns-then-size-clause-any_moment : goal.returns-then-size-clause-any_moment
returns-then-size-clause-any_moment g c honest = (free_start (4 * c.args.generation) (g.H.Host.history c.args.host.now)).moments

pub returns-in_err-create-clause-any_moment : goal.returns-in_err-create-clause-any_moment
returns-in_err-create-clause-any_moment g c honest =
    let H = g.H.Host in let file = 4 * c.args.generation in let h0 = H.history c.args.host.now in
    (free_call Created file h0 h0 (H.history c.create.new.self) (free_start file h0) (c.in_err-create.ensures.err honest)).moments

pub returns-in_err-write-clause-any_moment : goal.returns-in_err-write-clause-any_moment
returns-in_err-write-clause-any_moment g c honest =
    let H = g.H.Host in let file = 4 * c.args.generation in let h0 = H.history c.args.host.now in
    let h1 = H.history c.create.new.self in
    let made = free_call Created file h0 h0 h1 (free_start file h0) (inr (created_fits h0 h1 file (c.in_ok-create.ensures.ok honest))) in
    (free_call (Written 0 1) file h0 h1 (H.history c.write.new.self) made (c.in_err-write.ensures.err honest)).moments

pub returns-in_err-write_through-clause-crash_others : goal.returns-in_err-write_through-clause-crash_others
returns-in_err-write_through-clause-crash_others g c honest =
    let H = g.H.Host in let file = 4 * c.args.generation in let h0 = H.history c.args.host.now in
    let h1 = H.history c.create.new.self in
    let made = free_call Created file h0 h0 h1 (free_start file h0) (inr (created_fits h0 h1 file (c.in_ok-create.ensures.ok honest))) in
    let h2 = H.history c.write.new.self in
    let gated = free_call (Written 0 1) file h0 h1 h2 made (inr (written_fits H.history c.create.new.self c.write.new.self 0 (1 ∷ []) file (g.met.H.Host.valid c.write.new.self) (c.in_ok-write.ensures.ok honest))) in
    let w = c.write_through.ensures in
    (free_then (TornFrom 1 (length c.args.framed.now) (Outcome h2 file)) file h0 h2 (H.history c.write_through.new.host) gated (w.any_moment honest) (w.crash_others honest) (w.replies honest)).others

pub returns-in_err-write_through-clause-any_moment : goal.returns-in_err-write_through-clause-any_moment
returns-in_err-write_through-clause-any_moment g c honest =
    let H = g.H.Host in let file = 4 * c.args.generation in let h0 = H.history c.args.host.now in
    let h1 = H.history c.create.new.self in
    let made = free_call Created file h0 h0 h1 (free_start file h0) (inr (created_fits h0 h1 file (c.in_ok-create.ensures.ok honest))) in
    let h2 = H.history c.write.new.self in
    let gated = free_call (Written 0 1) file h0 h1 h2 made (inr (written_fits H.history c.create.new.self c.write.new.self 0 (1 ∷ []) file (g.met.H.Host.valid c.write.new.self) (c.in_ok-write.ensures.ok honest))) in
    let w = c.write_through.ensures in
    (free_then (TornFrom 1 (length c.args.framed.now) (Outcome h2 file)) file h0 h2 (H.history c.write_through.new.host) gated (w.any_moment honest) (w.crash_others honest) (w.replies honest)).moments

pub returns-clause-crash_others : goal.returns-clause-crash_others
returns-clause-crash_others g c honest =
    let H = g.H.Host in let file = 4 * c.args.generation in let h0 = H.history c.args.host.now in
    let h1 = H.history c.create.new.self in
    let made = free_call Created file h0 h0 h1 (free_start file h0) (inr (created_fits h0 h1 file (c.in_ok-create.ensures.ok honest))) in
    let h2 = H.history c.write.new.self in
    let gated = free_call (Written 0 1) file h0 h1 h2 made (inr (written_fits H.history c.create.new.self c.write.new.self 0 (1 ∷ []) file (g.met.H.Host.valid c.write.new.self) (c.in_ok-write.ensures.ok honest))) in
    let w = c.write_through.ensures in
    (free_then (TornFrom 1 (length c.args.framed.now) (Outcome h2 file)) file h0 h2 (H.history c.write_through.new.host) gated (w.any_moment honest) (w.crash_others honest) (w.replies honest)).others

pub returns-clause-any_moment : goal.returns-clause-any_moment
returns-clause-any_moment g c honest =
    let H = g.H.Host in let file = 4 * c.args.generation in let h0 = H.history c.args.host.now in
    let h1 = H.history c.create.new.self in
    let made = free_call Created file h0 h0 h1 (free_start file h0) (inr (created_fits h0 h1 file (c.in_ok-create.ensures.ok honest))) in
    let h2 = H.history c.write.new.self in
    let gated = free_call (Written 0 1) file h0 h1 h2 made (inr (written_fits H.history c.create.new.self c.write.new.self 0 (1 ∷ []) file (g.met.H.Host.valid c.write.new.self) (c.in_ok-write.ensures.ok honest))) in
    let w = c.write_through.ensures in
    (free_then (TornFrom 1 (length c.args.framed.now) (Outcome h2 file)) file h0 h2 (H.history c.write_through.new.host) gated (w.any_moment honest) (w.crash_others honest) (w.replies honest)).moments
