use Rattle.std.proofs.Common.{◌≡◌, ◌≢◌, ℕ, Some, sym, ap, subst, ◌∙◌}
use Rattle.fk_model.specs.declared.body.Body.{Body}
use Rattle.fk_store_graph.specs.declared.hints.lead.Lead.{Lead}
use Rattle.fk_store_graph.specs.declared.hints.lead.Sort.TheVariants.{Pointer}
use Rattle.fk_store_graph.specs.Hints.Leads.{led}
use Rattle.fk_store_cells.specs.declared.objects.entry.Told.{Told}
use Rattle.fk_store_cells.specs.declared.objects.entry.Told.TheVariants.{Nobody, One, Many}
use Rattle.fk_store_cells.specs.Objects.Filed.{Filed}
use Rattle.fk_store_graph.specs.Linked.Bodied.{body_under, Tells}
use Rattle.fk_store_graph.proofs.linked.hinting.told_anew.Goals as goal

-- of pointers it is told that anybody's may
not_pointer : (l : Lead) (told : Told) (other : ℕ) → told ≡ One other → (l.sort ≡ Pointer → told ≡ Many) → l.sort ≢ Pointer
not_pointer l told other is many sort = let all = many sort in absurd (cc)

nobody : (told : Told) (key : ℕ) → told ≡ Nobody → Tells told key → ⊥
nobody told key is tells = subst (λ t. Tells t key) is tells

one_kept : (o : Filed) (l : Lead) (told result : Told) (other : ℕ) → told ≡ One other →
    ((b : Body) (i : ℕ) → body_under o other ≡ Some b → led b i ≡ Some l → Tells result other) →
    (j : ℕ) (b : Body) (i : ℕ) → body_under o j ≡ Some b → led b i ≡ Some l → Tells told j → Tells result j
one_kept o l told result other is kept j b i there leads tells =
    let same : other ≡ j = subst (λ t. Tells t j) is tells in
    subst (λ k. Tells result k) same (kept b i (ap (body_under o) same ∙ there) leads)

pub returns-in-Nobody-clause-kept : goal.returns-in-Nobody-clause-kept
returns-in-Nobody-clause-kept c = λ j b i there leads tells. absurd (nobody c.args.told j c.in-Nobody.is tells)

pub one_more-requires : goal.one_more-requires
one_more-requires c = not_pointer c.args.lead c.args.told c.in-One.other c.in-One.is c.requires

pub returns-in-One-clause-kept : goal.returns-in-One-clause-kept
returns-in-One-clause-kept c = one_kept _ c.args.lead c.args.told c.one_more.result c.in-One.other c.in-One.is c.one_more.ensures.kept
