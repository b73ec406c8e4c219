-- Loops in one another, with a branch after a step: `next`, `break` and what comes after the loops.
--
--     version 1;
--     machine Nested { field c: variable; init begin() { init c = 0; } transition up() { update c = c + 1; } }
--     program {
--       word w[2] = 0 { }
--       start begin() () -> (t) { give a (); }
--       thread a () { t: c (0); } ends () { t: c (2); } {
--         i = 0;
--         loop (n) { t: c (n); fact n = i; } from (0) {
--           loop (m) { t: c (m); fact m = i; } from (n) {
--             x = add w[i] 1 when x <= 1 proof { still; } { next (m); } else proof { still; } { break (m); }
--           } after (k) { t: c (k); fact k = i; }
--           do up() (t) -> ();
--           i = i + 1;
--           if i = 2 { break (i); } else { next (i); }
--         } after (k) { t: c (k); fact k = 2; }
--         print rounds i;
--         end ();
--       }
--     }
use Rattle.std.specs.Prelude.{◌≡◌, pos, true, false, [], ◌∷◌, Some, None, refl}
use Rattle.sync_base.specs.declared.strategies.Strategy.TheVariants as strategies
use Rattle.sync_base.specs.declared.strategies.OpMode.TheVariants as modes
use Rattle.sync_terms.specs.Trees as tree
use Rattle.sync_terms.specs.Values.{truth}
use Rattle.sync_machine.specs.Machines as acts
use Rattle.sync_machine.specs.States.{sort_of}
use Rattle.sync_machine.specs.Statements.{presence, amount_is_natural, freshness, enabling, safety, condition, added}
use Rattle.sync_machine.specs.Statements.{removed, after as left_by, field_of as field_in, changed_by}
use Rattle.sync_rules.specs.Locality.{names_only, form_names_only, has_local_terms}
use Rattle.sync_rules.specs.Obligations.{names, form_names}
use Rattle.sync_rules.specs.Slots.{needs, started_at, updated_to, act_slot}
use Rattle.sync_exchange_values.specs.Fitting.{form_fits, number_fits, map_fits}
use Rattle.sync_exchange.specs.Exchange.{held_as, stored_at, argument, token_name, does}
use Rattle.sync_thread.specs.declared.operands.Opd.TheVariants as opd
use Rattle.sync_thread.specs.declared.operands.Rel.TheVariants as rel
use Rattle.sync_thread.specs.declared.operands.Calc.TheVariants as calc
use Rattle.sync_thread.specs.declared.operands.WordOp.TheVariants as op
use Rattle.sync_thread.specs.Control as c
use Rattle.sync_thread.specs.Control.{run, unwind}
use Rattle.sync_thread.specs.Programs as p
use Rattle.sync_thread.specs.Code.{code_list, code_of}
use Rattle.sync_thread_meaning.specs.MachineWithProgram.{MachineWithProgram}
use Rattle.sync_thread_meaning.specs.Exchanges.{are_safe, guarded_key}
use Rattle.sync_thread_meaning.proofs.Examples.{seen, seen_erased}

abbrev nested : MachineWithProgram
nested = record {
  machine = record {
    name = 0;
    fields = (record { name = 1; strategy = strategies.Variable; line = 2 } ∷ []);
    ops =
        (record {
          name = 3;
          mode = modes.Init;
          params = [];
          steps = (record { act = acts.Init 0 (tree.Lit (pos 0)); line = 2 } ∷ []);
          line = 2;
        } ∷ record {
          name = 4;
          mode =
              modes.Transition;
          params = [];
          steps =
              (record { act = acts.Update 0 (tree.Add (tree.Name 0) (tree.Lit (pos 1))); line = 2 } ∷ []);
          line = 2;
        } ∷ []);
    invariants = [];
  };
  program = record {
    decls =
        (p.Word (record { name = 5; len = 2; init = 0; names = []; clauses = []; fact = None; line = 4 }) ∷ []);
    start =
        Some (record {
          form = (record {
            op = 0;
            args = [];
            tokens = [];
            given = (6 ∷ []);
            label = None;
            scripts = [];
            line = 5;
          });
          steps = (record { what = p.Give 7 [] []; line = 5 } ∷ []);
          line = 5;
        });
    threads = (record {
      name = 7;
      takes = (record {
        names = [];
        lines = (record {
          name = 6;
          shape = record { field = (Some 0); key = None; value = (Some (tree.Lit (pos 0))) };
          line = 6;
        } ∷ []);
        facts = [];
        line = 6;
      });
      ends = (record {
        names = [];
        lines = (record {
          name = 6;
          shape = record { field = (Some 0); key = None; value = (Some (tree.Lit (pos 2))) };
          line = 6;
        } ∷ []);
        facts = [];
        line = 6;
      });
      body = (c.Do (p.Set 8 (calc.Plain (opd.Number 0)) None) 7
          (c.Loop (record {
            names = (9 ∷ []);
            lines = (record {
              name = 6;
              shape = record { field = (Some 0); key = None; value = (Some (tree.Name 100)) };
              line = 8;
            } ∷ []);
            facts = (record {
              form = (tree.Eq (tree.Name 100) (tree.Name 96));
              label = None;
              line =
                  8;
            } ∷ []);
            line = 8;
          }) (record { args = ((tree.Lit (pos 0)) ∷ []); scripts = [] }) 8
          (c.Loop (record {
            names = (10 ∷ []);
            lines = (record {
              name = 6;
              shape = record { field = (Some 0); key = None; value = (Some (tree.Name 104)) };
              line = 9;
            } ∷ []);
            facts = (record {
              form = (tree.Eq (tree.Name 104) (tree.Name 96));
              label = None;
              line =
                  9;
            } ∷ []);
            line = 9;
          }) (record { args = ((tree.Name 100) ∷ []); scripts = [] }) 9
          (c.OnWhen (record {
            atomic = (record {
              op = (op.Add (opd.Number 1));
              local = (Some 11);
              word = 5;
              index = (record { operand = (opd.Local 8); scripts = [] });
              label = None;
            });
            test = (record {
              cond = record { left = (opd.Local 11); rel = rel.Le; right = (opd.Number 1) };
              label = None;
            });
            first = (record { what = p.Still []; line = 10 } ∷ []);
            second = (record { what = p.Still []; line = 10 } ∷ []);
          })
          10 (c.Next (record { args = ((tree.Name 104) ∷ []); scripts = [] }) 10 (c.Brace 10))
          (c.Break (record { args = ((tree.Name 104) ∷ []); scripts = [] }) 10 (c.Brace 10)) None (c.Brace 11))
          (Some (record {
            names = (12 ∷ []);
            lines = (record {
              name = 6;
              shape = record { field = (Some 0); key = None; value = (Some (tree.Name 112)) };
              line = 11;
            } ∷ []);
            facts = (record {
              form = (tree.Eq (tree.Name 112) (tree.Name 96));
              label = None;
              line =
                  11;
            } ∷ []);
            line = 11;
          })) (c.Do
          (p.Proof (p.Exchange (record {
            op = 1;
            args = [];
            tokens = ((record { name = 6; at = None }) ∷ []);
            given = [];
            label = None;
            scripts = [];
            line = 12;
          }))) 12
          (c.Do (p.Set 8 (calc.Plus (opd.Local 8) (opd.Number 1)) None) 13
          (c.If (record { cond = record { left = (opd.Local 8); rel = rel.Eq; right = (opd.Number 2) }; label = None })
          14
          (c.Break (record { args = ((tree.Name 96) ∷ []); scripts = [] }) 14 (c.Brace 14))
          (c.Next (record { args = ((tree.Name 96) ∷ []); scripts = [] }) 14 (c.Brace 14)) None (c.Brace 15)))))
          (Some (record {
            names = (12 ∷ []);
            lines = (record {
              name = 6;
              shape = record { field = (Some 0); key = None; value = (Some (tree.Name 112)) };
              line = 15;
            } ∷ []);
            facts = (record {
              form = (tree.Eq (tree.Name 112) (tree.Lit (pos 2)));
              label = None;
              line =
                  15;
            } ∷ []);
            line = 15;
          })) (c.On (p.Print 13 (opd.Local 8)) 16
          (c.End (record { args = []; scripts = [] }) 17 (c.Brace 18)))));
      line = 6;
    } ∷ []);
    last = None;
  };
}

start : seen nested [] ≡ Some ((0 ∷ 0 ∷ []), [], [], (true ∷ false ∷ []), ((pos 0) ∷ []))
unfolding code_list run unwind held_as stored_at argument token_name does form_fits number_fits map_fits names_only
    form_names_only has_local_terms are_safe guarded_key names form_names needs started_at updated_to act_slot
    presence amount_is_natural freshness enabling safety condition added removed left_by field_in changed_by sort_of
    truth
start = refl

inner_left : seen nested (0 ∷ 0 ∷ 0 ∷ []) ≡ Some ((3 ∷ 0 ∷ []), [], [], (true ∷ false ∷ []), ((pos 1) ∷ []))
unfolding code_list run unwind held_as stored_at argument token_name does form_fits number_fits map_fits names_only
    form_names_only has_local_terms are_safe guarded_key names form_names needs started_at updated_to act_slot
    presence amount_is_natural freshness enabling safety condition added removed left_by field_in changed_by sort_of
    truth
inner_left = refl

ended : seen nested (0 ∷ 0 ∷ 0 ∷ 0 ∷ 0 ∷ 0 ∷ 0 ∷ []) ≡ Some
    ((3 ∷ 3 ∷ []), [], ((13, 2) ∷ []), (false ∷ false ∷ []), ((pos 2) ∷ []))
unfolding code_list run unwind held_as stored_at argument token_name does form_fits number_fits map_fits names_only
    form_names_only has_local_terms are_safe guarded_key names form_names needs started_at updated_to act_slot
    presence amount_is_natural freshness enabling safety condition added removed left_by field_in changed_by sort_of
    truth
ended = refl

erased_ended : seen_erased (code_of nested.program) (0 ∷ 0 ∷ 0 ∷ 0 ∷ 0 ∷ 0 ∷ 0 ∷ []) ≡ Some
    ((3 ∷ 3 ∷ []), [], ((13, 2) ∷ []), (false ∷ false ∷ []))
unfolding code_list run unwind held_as stored_at argument token_name does form_fits number_fits map_fits names_only
    form_names_only has_local_terms are_safe guarded_key names form_names needs started_at updated_to act_slot
    presence amount_is_natural freshness enabling safety condition added removed left_by field_in changed_by sort_of
    truth
erased_ended = refl
