-- The first seat and the table meet the rule.
use Rattle.std.proofs.Common.{rules, ◌≡◌, ◌<◌, length, ℕ, List, [], subst, sym, ap, arith}
use Rattle.std.proofs.lemmas.List.FromFn.{length-range_with_len}
use Rattle.atomic_table.specs.Table.{Me, opening}
use Rattle.sync_words.specs.declared.rule.View.{View}
use Rattle.sync_words.specs.Views.{opened}
use Rattle.sync_words.specs.Rule.{Kept, IsSeated}
use Rattle.sync_words.proofs.Resting.{rests_opened}
use Rattle.sync_words.proofs.Keeping.{opens}
use Rattle.sync_words.proofs.words.Words.new.Goals as goal

pub of_words-requires : goal.of_words-requires
of_words-requires c =
    let is : c.extend_from_slice.new.self.items ≡ c.args.init.now = search rules in
    subst (λ (ws : List ℕ). Kept ws c.args.threads (opening c.args.init.now [] (opened ws c.args.threads))) (sym is) (opens c.args.init.now c.args.threads)

pub invariant_of-result-2 : goal.invariant_of-result-2
invariant_of-result-2 c =
    let h = c.in_ok-table.ensures in
    let m : Me ℕ View = c.in_ok-table.token.me in
    let words : List ℕ = c.extend_from_slice.new.self.items in
    let view : m.0 ≡ opened words c.args.threads = ap (λ (x : Me ℕ View). x.0) h.4 in
    let count = length-range_with_len 0 c.args.threads in
    record {
      bare = ap (λ (x : Me ℕ View). x.1) h.4;
      some = subst (λ (v : View). 0 < length v.numbers) (sym view) (omega arith);
      rests = subst (λ (v : View). ∥ IsSeated v ∥₁) (sym view) ∣ rests_opened words c.args.threads ∣₁;
    }

pub returns-clause-rests : goal.returns-clause-rests
returns-clause-rests c =
    subst IsSeated (sym (ap (λ (x : Me ℕ View). x.0) c.in_ok-table.ensures.4)) (rests_opened c.extend_from_slice.new.self.items c.args.threads)
