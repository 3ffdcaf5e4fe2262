use Rattle.std.proofs.Common.{refl}
use Rattle.nova_engine.specs.Seen.{seen}
use Rattle.nova_engine.proofs.Damage.{err_is, grows_by, unshown_grows, read_same, shown_damage, shown_disk, shown_reply}
use Rattle.nova_engine.proofs.Replying.{shown_stops, shown_takes}
use Rattle.nova_engine.proofs.commands.show.Goals as goal

pub returns-in-Ok-clause-answers : goal.returns-in-Ok-clause-answers
returns-in-Ok-clause-answers g c =
    shown_takes _ c.args.store c.args.channel (seen g.H.Host c.args.host.now) (seen g.H.Host c.show.new.host) c.in-Ok.ensures.step c.show.ensures.bytes_read

pub returns-in-Err-clause-answers : goal.returns-in-Err-clause-answers
returns-in-Err-clause-answers g c =
    shown_stops _ c.args.store c.args.channel _ _ (seen g.H.Host c.args.host.now) (seen g.H.Host c.show.new.host) c.stop_of_show.ensures c.in-Err.ensures.step c.show.ensures.bytes_read

pub returns-in-Ok-clause-store : goal.returns-in-Ok-clause-store
returns-in-Ok-clause-store g c = record {
  in_host = read_same _ c.args.store (g.H.Host.history c.args.host.now) (g.H.Host.history c.show.new.host) c.show.ensures.files c.requires.in_host;
  flow = refl;
}

pub returns-in-Err-clause-cause : goal.returns-in-Err-clause-cause
returns-in-Err-clause-cause g c =
    let s = c.stop_of_show.result in
    record {
      disk_later = c.show.ensures.disk_later;
      reply_later = c.show.ensures.reply_later;
      disk_rose = λ is. shown_disk _ _ _ _ s c.in-Err.unshown c.stop_of_show.ensures c.in-Err.ensures.cause (err_is s _ _ refl is);
      reply_rose = λ is. shown_reply _ _ _ _ s c.in-Err.unshown c.stop_of_show.ensures c.in-Err.ensures.cause (err_is s _ _ refl is);
      damage = λ file at is. shown_damage _ c.args.store c.args.channel s c.in-Err.unshown (g.H.Host.history c.args.host.now) (g.H.Host.history c.show.new.host) c.stop_of_show.ensures c.requires.in_host c.requires.channel
          c.in-Err.ensures.told c.show.ensures.files file at (err_is s _ _ refl is);
    }

pub returns-in-Ok-clause-grows : goal.returns-in-Ok-clause-grows
returns-in-Ok-clause-grows g c honest = grows_by (g.H.Host.history c.args.host.now) (g.H.Host.history c.show.new.host) _ (c.in-Ok.ensures.gave honest).replied

pub returns-in-Err-clause-grows : goal.returns-in-Err-clause-grows
returns-in-Err-clause-grows g c honest = unshown_grows c.args.store c.args.channel (g.H.Host.history c.args.host.now) (g.H.Host.history c.show.new.host) c.in-Err.unshown (c.in-Err.ensures.gave honest)
