-- Files that decide.
use Rattle.std.proofs.Common.{◌≡◌, ◌⊎◌, inl, inr, ℕ, List, [], ◌∷◌, ◌++◌, length, map, Option, Some, None, refl, ap, sym, ◌∙◌, subst, arith}
use Rattle.std.specs.Prelude.{IsSome, Bool, true, if◌then◌else◌}
use Rattle.nova_outside.specs.Disk.{Files}
use Rattle.nova_outside.specs.History.{current}
use Rattle.nova_journal.specs.Log.{IsLog}
use Rattle.nova_journal.specs.Marks.{IsMark}
use Rattle.nova_channel.specs.Reading.{block_file}
use Rattle.std.specs.List.{AllByRecursion}
use Rattle.nova_commit.specs.Commits.{Fits, commit_bytes}
use Rattle.nova_meta.proofs.Once.{commits_compose}
use Rattle.nova_machine.specs.Workflow.{Workflow}
use Rattle.nova_runner.specs.Texts.{HasFlow}
use Rattle.nova_runner.specs.Workflow.{wiring_of}
use Rattle.nova_meta.specs.declared.wiring.Wiring.{Wiring}
use Rattle.nova_commit.specs.declared.commit.Commit.TheVariants as commit
use Rattle.nova_meta.specs.Catalog.{Entered, allows, applied, with_commit}
use Rattle.nova_meta.specs.Named.{IsCatalogOf}
use Rattle.nova_commit.specs.declared.commit.Commit.{Commit}
use Rattle.nova_machine.specs.State.{State, ended}
use Rattle.nova_runner.specs.Files.{Decides, Piece, IsNamed, IsStored, journal_file, mark_file}
use Rattle.nova_runner.specs.Laws.{CommitsLead, DecidingFilesDecide, SettledImagesStand}
use Rattle.nova_runner.specs.Stands.{IsLost, IsLostAs, StandsBut}

-- a lost block is lost in files that read the same there
pub lost_same : (flow : Workflow) (old new : Files) (p : Piece) → new (block_file p.block) ≡ old (block_file p.block) → IsLost flow old p → IsLost flow new p
lost_same flow old new p same lost = subst (λ (o : Option (List ℕ)). IsLostAs flow o p.size p.content) (sym same) lost

stored_same : (old new : Files) (s : State) (p : Piece) → new (block_file p.block) ≡ old (block_file p.block) → IsStored old s p → IsStored new s p
stored_same old new s p same is = record { file = same ∙ is.file; long = is.long }

not_journal : (x b : ℕ) → block_file b ≡ journal_file x → ⊥
not_journal x b e = omega (arith, e)

-- the mark and those above it
marked_same : (x : ℕ) (cat : Entered) (old new : Files) → ((n : ℕ) → Decides x cat n → (n ≡ journal_file x → ⊥) → new n ≡ old n) → IsMark old (Some x) → IsMark new (Some x)
marked_same x cat old new same marked = (
  subst IsSome (sym (same (mark_file x) (inl (x, omega arith, refl)) (λ e. omega (arith, e)))) marked.0,
  λ y lt. same (mark_file y) (inl (y, omega (arith, lt), refl)) (λ e. omega (arith, e)) ∙ marked.1 y lt,
)

-- the same but for the journal, which has the same commits
pub rebuilt : (x : ℕ) (commits : List Commit) (cat : Entered) (old new : Files) (s : State) →
    ((n : ℕ) → Decides x cat n → (n ≡ journal_file x → ⊥) → new n ≡ old n) → IsLog (map commit_bytes commits) (new (journal_file x)) → StandsBut x commits cat old s → StandsBut x commits cat new s
rebuilt x commits cat old new s same log by = record {
  marked = marked_same x cat old new same by.marked;
  log = log;
  agrees = by.agrees;
  stored = λ p named.
      let here = same (block_file p.block) (inr (inr (p, named, refl))) (not_journal x p.block) in
      elim (by.stored p named) as (λ _. IsStored new s p ⊎ IsLost s.flow new p) [ inl is ↦ inl (stored_same old new s p here is) | inr lost ↦ inr (lost_same s.flow old new p here lost) ];
  empty = by.empty;
  paths = by.paths;
}

pub deciding_files_decide : DecidingFilesDecide
deciding_files_decide x commits cat old new s same by =
    rebuilt x commits cat old new s (λ n decides apart. same n decides) (subst (IsLog (map commit_bytes commits)) (sym (same (journal_file x) (inr (inl refl)))) by.log) by

pub settled_images_stand : SettledImagesStand
settled_images_stand x commits cat h image s settled by is = record {
  but = deciding_files_decide x commits cat (current h) image s (λ n decides. settled n decides (image n) (is n)) by.but;
  stored = λ p named. stored_same (current h) image s p (let n = block_file p.block in settled n (inr (inr (p, named, refl))) (image n) (is n)) (by.stored p named);
}

all_fit : (commits : List Commit) (own : Commit) → AllByRecursion Fits commits → Fits own → AllByRecursion Fits (commits ++ own ∷ [])
all_fit [] own all fits = (fits, tt)
all_fit (c ∷ cs) own all fits = (all.0, all_fit cs own all.1 fits)

-- one commit more, that is allowed
pub catalog_more : (w : Wiring) (commits : List Commit) (own : Commit) (cat : Entered) → IsCatalogOf w commits cat → Fits own → allows cat own ≡ true → IsCatalogOf w (commits ++ own ∷ []) (applied cat own)
catalog_more w commits own cat is fits allowed = record {
  fit = all_fit commits own is.fit fits;
  is = commits_compose w commits own ∙ ap (λ (o : Option Entered). with_commit o own) is.is ∙ ap (λ (b : Bool). let made : Option Entered = if b then Some (applied cat own) else None in made) allowed;
}

pub commits_lead : CommitsLead
commits_lead x commits own cat old new s t fresh by leads same named log = record {
  marked = marked_same x cat old new same by.marked;
  log = log;
  agrees = record {
    read = subst (λ (f : Workflow). HasFlow f.text f) (sym leads.flow) by.agrees.read;
    later = by.agrees.later ++ own ∷ [];
    begins = ap (λ (cs : List Commit). cs ++ own ∷ []) by.agrees.begins ∙ ap (λ (f : Workflow). commit.Flow f.text ∷ (by.agrees.later ++ own ∷ [])) (sym leads.flow);
    catalog = subst (λ (f : Workflow). IsCatalogOf (wiring_of f) (commits ++ own ∷ []) (applied cat own)) (sym leads.flow) (catalog_more (wiring_of s.flow) commits own cat by.agrees.catalog leads.fits leads.allowed);
    same = leads.like;
  };
  stored = λ p is. elim (named p is) as (λ _. IsStored new (ended t) p ⊎ IsLost t.flow new p) [ inl old_one ↦ still p old_one is (by.stored p old_one) | inr new_one ↦ inl new_one ];
  empty = leads.empty;
  paths = leads.paths;
}
  where
    still : (p : Piece) → IsNamed cat p → IsNamed (applied cat own) p → IsStored old (ended s) p ⊎ IsLost s.flow old p → IsStored new (ended t) p ⊎ IsLost t.flow new p
    still p named later (inl is) = inl (record {
      file = same (block_file p.block) (inr (inr (p, named, refl))) (not_journal x p.block) ∙ is.file ∙ ap (λ (bs : List ℕ). Some bs) (sym (leads.stay p named later));
      long = is.long ∙ ap length (sym (leads.stay p named later));
    })
    still p named later (inr lost) = inr (subst (λ (f : Workflow). IsLost f new p) (sym leads.flow) (lost_same s.flow old new p (same (block_file p.block) (inr (inr (p, named, refl))) (not_journal x p.block)) lost))
