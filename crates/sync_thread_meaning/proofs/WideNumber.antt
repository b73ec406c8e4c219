-- A field grows beyond 128 bits: without a bound it goes on, with the bound it is too wide at the second event.
--
--     version 1;
--     machine Wide {
--       field c: variable;
--       init begin() { init c = 170141183460469231731687303715884105726; }
--       transition up() { update c = c + 1; }
--     }
--     program {
--       word w[1] = 0 { }
--       start begin() () -> (t) { give a (); }
--       thread a () { t: c (170141183460469231731687303715884105726); } ends () { } {
--         print first 1;
--         do up() (t) -> ();
--         print second 2;
--         do up() (t) -> ();
--         end ();
--       }
--     }
use Rattle.std.specs.Prelude.{◌≡◌, pos, true, false, [], ◌∷◌, Some, None, refl}
use Rattle.sync_base.specs.declared.strategies.Strategy.TheVariants as strategies
use Rattle.sync_base.specs.declared.strategies.OpMode.TheVariants as modes
use Rattle.sync_terms.specs.Trees as tree
use Rattle.sync_terms.specs.Values.{truth}
use Rattle.sync_machine.specs.Machines as acts
use Rattle.sync_machine.specs.States.{sort_of}
use Rattle.sync_machine.specs.Statements.{presence, amount_is_natural, freshness, enabling, safety, condition, added}
use Rattle.sync_machine.specs.Statements.{removed, after as left_by, field_of as field_in, changed_by}
use Rattle.sync_rules.specs.Locality.{names_only, form_names_only, has_local_terms}
use Rattle.sync_rules.specs.Obligations.{names, form_names}
use Rattle.sync_rules.specs.Slots.{needs, started_at, updated_to, act_slot}
use Rattle.sync_exchange_values.specs.Fitting.{form_fits, number_fits, map_fits}
use Rattle.sync_exchange.specs.Exchange.{held_as, stored_at, argument, token_name, does}
use Rattle.sync_thread.specs.declared.operands.Opd.TheVariants as opd
use Rattle.sync_thread.specs.Control as c
use Rattle.sync_thread.specs.Control.{run, unwind}
use Rattle.sync_thread.specs.Programs as p
use Rattle.sync_thread.specs.Code.{code_list}
use Rattle.sync_thread_meaning.specs.MachineWithProgram.{MachineWithProgram}
use Rattle.sync_thread_meaning.specs.Exchanges.{are_safe, guarded_key}
use Rattle.sync_thread_meaning.proofs.Examples.{seen, is_wide_at}

abbrev wide_number : MachineWithProgram
wide_number = record {
  machine = record {
    name = 0;
    fields = (record { name = 1; strategy = strategies.Variable; line = 3 } ∷ []);
    ops =
        (record {
          name = 3;
          mode = modes.Init;
          params = [];
          steps = (record {
            act = acts.Init 0 (tree.Lit (pos 170141183460469231731687303715884105726));
            line = 4;
          } ∷ []);
          line = 4;
        } ∷ record {
          name = 4;
          mode = modes.Transition;
          params = [];
          steps =
              (record { act = acts.Update 0 (tree.Add (tree.Name 0) (tree.Lit (pos 1))); line = 5 } ∷ []);
          line = 5;
        } ∷ []);
    invariants = [];
  };
  program = record {
    decls =
        (p.Word (record { name = 5; len = 1; init = 0; names = []; clauses = []; fact = None; line = 8 }) ∷ []);
    start =
        Some (record {
          form = (record {
            op = 0;
            args = [];
            tokens = [];
            given = (6 ∷ []);
            label = None;
            scripts = [];
            line = 9;
          });
          steps = (record { what = p.Give 7 [] []; line = 9 } ∷ []);
          line = 9;
        });
    threads = (record {
      name = 7;
      takes = (record {
        names = [];
        lines = (record {
          name = 6;
          shape = record {
            field = (Some 0);
            key = None;
            value = (Some (tree.Lit (pos 170141183460469231731687303715884105726)));
          };
          line = 10;
        } ∷ []);
        facts = [];
        line = 10;
      });
      ends = (record { names = []; lines = []; facts = []; line = 10 });
      body = (c.On (p.Print 8 (opd.Number 1)) 11
          (c.Do (p.Proof (p.Exchange (record {
            op = 1;
            args = [];
            tokens = ((record { name = 6; at = None }) ∷ []);
            given = [];
            label = None;
            scripts = [];
            line = 12;
          }))) 12
          (c.On (p.Print 9 (opd.Number 2)) 13
          (c.Do (p.Proof (p.Exchange (record {
            op = 1;
            args = [];
            tokens = ((record { name = 6; at = None }) ∷ []);
            given = [];
            label = None;
            scripts = [];
            line = 14;
          }))) 14
          (c.End (record { args = []; scripts = [] }) 15 (c.Brace 16))))));
      line = 10;
    } ∷ []);
    last = None;
  };
}

narrow : seen wide_number (0 ∷ []) ≡ Some
    ((0 ∷ []), [], ((8, 1) ∷ []), (true ∷ false ∷ []), ((pos 170141183460469231731687303715884105727) ∷ []))
unfolding code_list run unwind held_as stored_at argument token_name does form_fits number_fits map_fits names_only
    form_names_only has_local_terms are_safe guarded_key names form_names needs started_at updated_to act_slot
    presence amount_is_natural freshness enabling safety condition added removed left_by field_in changed_by sort_of
    truth
narrow = refl

wide : is_wide_at wide_number (0 ∷ 0 ∷ []) ≡ true
unfolding code_list run unwind held_as stored_at argument token_name does form_fits number_fits map_fits names_only
    form_names_only has_local_terms are_safe guarded_key names form_names needs started_at updated_to act_slot
    presence amount_is_natural freshness enabling safety condition added removed left_by field_in changed_by sort_of
    truth
wide = refl

without_bound : seen wide_number (0 ∷ 0 ∷ []) ≡ Some
    ((0 ∷ []), [], ((8, 1) ∷ (9, 2) ∷ []), (false ∷ false ∷ []), ((pos 170141183460469231731687303715884105728) ∷ []))
unfolding code_list run unwind held_as stored_at argument token_name does form_fits number_fits map_fits names_only
    form_names_only has_local_terms are_safe guarded_key names form_names needs started_at updated_to act_slot
    presence amount_is_natural freshness enabling safety condition added removed left_by field_in changed_by sort_of
    truth
without_bound = refl
