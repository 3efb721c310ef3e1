use Rattle.std.proofs.Common.{◌≡◌, ℕ, ◌+◌, List, [], ◌∷◌, ◌++◌, map, Option, cond, is_some, ap, ◌∙◌, rules, arith}
use Rattle.std.proofs.lemmas.List.{map-append}
use Rattle.fk_asm.specs.Program.{TextLine, size}
use Rattle.fk_asm.specs.Labels.{line_view, label_address_in, with_label, IsNew}
use Rattle.fk_asm.proofs.Addresses.{with_label-added, size-push, size_one, places-map}
use Rattle.fk_asm.proofs.program.Lines.with.Goals as goal

pub invariant_of-result : goal.invariant_of-result
invariant_of-result c =
    let lines : List TextLine = map line_view c.self.inside.lines.items in
    let line : TextLine = line_view c.args.line in
    let all : map line_view c.push.new.self.items ≡ lines ++ line ∷ [] = ap (map line_view) c.in_ok-push.ensures.items
    ∙ map-append line_view c.self.inside.lines.items (c.args.line ∷ []) in
    let new : IsNew lines line.label = rw (← c.self.view_is) at c.requires in
    let more : c.in-Some.size ≡ c.self.inside.size + cond (is_some c.args.line.item) 1 0 = search rules in
    rw all (
      λ name. c.in_ok-addresses.ensures name
          ∙ ap (λ a. with_label line.label a (label_address_in c.self.inside.addresses) name) c.self.invariant.1
          ∙ ap (λ (f : List ℕ → Option ℕ). with_label line.label (size lines) f name) (λ i q. c.self.invariant.0 q i)
          ∙ with_label-added lines line name new,
      omega (
        arith,
        more,
        c.self.invariant.1,
        size-push lines line,
        size_one line,
        ap (λ t. cond {A = ℕ} t 1 0) (places-map c.args.line.item),
      ),
    )
