-- A loop gives away, under another name, the token that its keep asks for: the event that comes back to it fails.
--
--     version 1;
--     machine Two { field c: variable; field d: variable; init b() { init c = 0; init d = 0; } }
--     program {
--       word w[1] = 0 { }
--       start b() () -> (tc, td) { move td -> tok; give a (); }
--       thread a () { tok: d (0); } ends () { } {
--         loop () { tok: d (0); } from () {
--           print p 1;
--           move tok -> gone;
--           next ();
--         }
--       }
--     }
use Rattle.std.specs.Prelude.{◌≡◌, pos, true, false, [], ◌∷◌, Some, None, refl}
use Rattle.sync_base.specs.declared.strategies.Strategy.TheVariants as strategies
use Rattle.sync_base.specs.declared.strategies.OpMode.TheVariants as modes
use Rattle.sync_terms.specs.Trees as tree
use Rattle.sync_terms.specs.Values.{truth}
use Rattle.sync_machine.specs.Machines as acts
use Rattle.sync_machine.specs.States.{sort_of}
use Rattle.sync_machine.specs.Statements.{presence, amount_is_natural, freshness, enabling, safety, condition, added}
use Rattle.sync_machine.specs.Statements.{removed, after as left_by, field_of as field_in, changed_by}
use Rattle.sync_rules.specs.Locality.{names_only, form_names_only, has_local_terms}
use Rattle.sync_rules.specs.Obligations.{names, form_names}
use Rattle.sync_rules.specs.Slots.{needs, started_at, updated_to, act_slot}
use Rattle.sync_exchange_values.specs.Fitting.{form_fits, number_fits, map_fits}
use Rattle.sync_exchange.specs.Exchange.{held_as, stored_at, argument, token_name, does}
use Rattle.sync_thread.specs.declared.operands.Opd.TheVariants as opd
use Rattle.sync_thread.specs.Control as c
use Rattle.sync_thread.specs.Control.{run, unwind}
use Rattle.sync_thread.specs.Programs as p
use Rattle.sync_thread.specs.Code.{code_list}
use Rattle.sync_thread_meaning.specs.MachineWithProgram.{MachineWithProgram}
use Rattle.sync_thread_meaning.specs.Exchanges.{are_safe, guarded_key}
use Rattle.sync_thread_meaning.proofs.Examples.{seen, is_broken_at}

abbrev given_away : MachineWithProgram
given_away = record {
  machine = record {
    name = 0;
    fields = (record { name = 1; strategy = strategies.Variable; line = 2 } ∷ record {
      name = 3;
      strategy = strategies.Variable;
      line = 2;
    } ∷ []);
    ops = (record {
      name = 4;
      mode = modes.Init;
      params = [];
      steps = (record {
        act = acts.Init 0 (tree.Lit (pos 0));
        line = 2;
      } ∷ record { act = acts.Init 1 (tree.Lit (pos 0)); line = 2 } ∷ []);
      line = 2;
    } ∷ []);
    invariants = [];
  };
  program = record {
    decls = (p.Word
        (record { name = 5; len = 1; init = 0; names = []; clauses = []; fact = None; line = 4 }) ∷ []);
    start = Some (record {
      form = (record {
        op = 0;
        args = [];
        tokens = [];
        given = (6 ∷ 7 ∷ []);
        label = None;
        scripts = [];
        line = 5;
      });
      steps = (record {
        what = p.Move (record { name = 7; at = None }) 8;
        line =
            5;
      } ∷ record { what = p.Give 9 [] []; line = 5 } ∷ []);
      line = 5;
    });
    threads = (record {
      name = 9;
      takes = (record {
        names = [];
        lines = (record {
          name = 8;
          shape = record { field = (Some 1); key = None; value = (Some (tree.Lit (pos 0))) };
          line = 6;
        } ∷ []);
        facts = [];
        line = 6;
      });
      ends = (record { names = []; lines = []; facts = []; line = 6 });
      body = (c.Loop (record {
        names = [];
        lines = (record {
          name = 8;
          shape = record { field = (Some 1); key = None; value = (Some (tree.Lit (pos 0))) };
          line = 7;
        } ∷ []);
        facts = [];
        line = 7;
      }) (record { args = []; scripts = [] }) 7
          (c.On (p.Print 10 (opd.Number 1)) 8
          (c.Do (p.Proof (p.Move (record { name = 8; at = None }) 11)) 9
          (c.Next (record { args = []; scripts = [] }) 10 (c.Brace 11)))) None (c.Brace 12));
      line = 6;
    } ∷ []);
    last = None;
  };
}

start : seen given_away [] ≡ Some ((0 ∷ []), [], [], (true ∷ false ∷ []), ((pos 0) ∷ (pos 0) ∷ []))
unfolding code_list run unwind held_as stored_at argument token_name does form_fits number_fits map_fits names_only
    form_names_only has_local_terms are_safe guarded_key names form_names needs started_at updated_to act_slot
    presence amount_is_natural freshness enabling safety condition added removed left_by field_in changed_by sort_of
    truth
start = refl

fails : is_broken_at given_away (0 ∷ []) ≡ true
unfolding code_list run unwind held_as stored_at argument token_name does form_fits number_fits map_fits names_only
    form_names_only has_local_terms are_safe guarded_key names form_names needs started_at updated_to act_slot
    presence amount_is_natural freshness enabling safety condition added removed left_by field_in changed_by sort_of
    truth
fails = refl

after_nothing : seen given_away (1 ∷ []) ≡ Some ((0 ∷ []), [], [], (true ∷ false ∷ []), ((pos 0) ∷ (pos 0) ∷ []))
unfolding code_list run unwind held_as stored_at argument token_name does form_fits number_fits map_fits names_only
    form_names_only has_local_terms are_safe guarded_key names form_names needs started_at updated_to act_slot
    presence amount_is_natural freshness enabling safety condition added removed left_by field_in changed_by sort_of
    truth
after_nothing = refl
