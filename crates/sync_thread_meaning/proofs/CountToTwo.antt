-- Two threads add 1 to a word, each with its own token, and the final block reads 2.
--
--     version 1;
--     machine Count {
--       field c: variable;
--       field a: variable;
--       field b: variable;
--       init begin() { init c = 0; init a = 0; init b = 0; }
--       transition inc_a() { require a = 0; assert c <= 1; update a = 1; update c = c + 1; }
--       transition inc_b() { require b = 0; assert c <= 1; update b = 1; update c = c + 1; }
--       property all() { have c; require a = 1; require b = 1; assert c = 2; }
--     }
--     program {
--       word n[1] = 0 { holds c (value); }
--       start begin() () -> (tc, ta, tb) { seal n[0] () [tc]; give a (); give b (); }
--       thread a () { ta: a (0); } ends () { ta: a (1); } {
--         x = add n[0] 1 proof { open () [t]; do inc_a() (t, ta) -> (); close () [t]; };
--         end ();
--       }
--       thread b () { tb: b (0); } ends () { tb: b (1); } {
--         x = add n[0] 1 proof { open () [t]; do inc_b() (t, tb) -> (); close () [t]; };
--         end ();
--       }
--       final {
--         r = load n[0] proof { open () [t]; do all() (t, ta, tb) -> (); close () [t]; };
--         print result r;
--       }
--     }
use Rattle.std.specs.Prelude.{◌≡◌, pos, true, false, [], ◌∷◌, Some, None, refl}
use Rattle.sync_base.specs.declared.strategies.Strategy.TheVariants as strategies
use Rattle.sync_base.specs.declared.strategies.OpMode.TheVariants as modes
use Rattle.sync_terms.specs.Trees as tree
use Rattle.sync_terms.specs.Values.{truth}
use Rattle.sync_machine.specs.Machines as acts
use Rattle.sync_machine.specs.States.{sort_of}
use Rattle.sync_machine.specs.Statements.{presence, amount_is_natural, freshness, enabling, safety, condition, added}
use Rattle.sync_machine.specs.Statements.{removed, after as left_by, field_of as field_in, changed_by}
use Rattle.sync_rules.specs.Locality.{names_only, form_names_only, has_local_terms}
use Rattle.sync_rules.specs.Obligations.{names, form_names}
use Rattle.sync_rules.specs.Slots.{needs, started_at, updated_to, act_slot}
use Rattle.sync_exchange_values.specs.Fitting.{form_fits, number_fits, map_fits}
use Rattle.sync_exchange.specs.Exchange.{held_as, stored_at, argument, token_name, does}
use Rattle.sync_thread.specs.declared.operands.Opd.TheVariants as opd
use Rattle.sync_thread.specs.declared.operands.WordOp.TheVariants as op
use Rattle.sync_words.specs.declared.entries.Operation.TheVariants.{Add}
use Rattle.sync_words.specs.Entries.{entry}
use Rattle.sync_thread.specs.Control as c
use Rattle.sync_thread.specs.Control.{run, unwind}
use Rattle.sync_thread.specs.Programs as p
use Rattle.sync_thread.specs.Code.{code_list, code_of}
use Rattle.sync_thread.specs.Logs.{FollowsCode}
use Rattle.sync_thread_meaning.specs.MachineWithProgram.{MachineWithProgram}
use Rattle.sync_thread_meaning.specs.Exchanges.{are_safe, guarded_key}
use Rattle.sync_thread_meaning.proofs.Examples.{seen, seen_erased}

abbrev count_to_two : MachineWithProgram
count_to_two = record {
  machine = record {
    name = 0;
    fields = (record { name = 1; strategy = strategies.Variable; line = 3 } ∷ record {
      name = 3;
      strategy = strategies.Variable;
      line = 4;
    } ∷ record { name = 4; strategy = strategies.Variable; line = 5 } ∷ []);
    ops = (record {
      name = 5;
      mode = modes.Init;
      params = [];
      steps = (record {
        act = acts.Init 0 (tree.Lit (pos 0));
        line = 6;
      } ∷ record { act = acts.Init 1 (tree.Lit (pos 0)); line = 6 } ∷ record {
        act =
            acts.Init 2 (tree.Lit (pos 0));
        line = 6;
      } ∷ []);
      line = 6;
    } ∷ record {
      name = 6;
      mode = modes.Transition;
      params = [];
      steps = (record {
        act = acts.Require (tree.Eq (tree.Name 1) (tree.Lit (pos 0)));
        line = 7;
      } ∷ record { act = acts.Assert (tree.Le (tree.Name 0) (tree.Lit (pos 1))); line = 7 } ∷ record {
        act =
            acts.Update 1 (tree.Lit (pos 1));
        line = 7;
      } ∷ record {
        act =
            acts.Update 0 (tree.Add (tree.Name 0) (tree.Lit (pos 1)));
        line = 7;
      } ∷ []);
      line = 7;
    } ∷ record {
      name = 7;
      mode = modes.Transition;
      params = [];
      steps =
          (record {
            act = acts.Require (tree.Eq (tree.Name 2) (tree.Lit (pos 0)));
            line = 8;
          } ∷ record { act = acts.Assert (tree.Le (tree.Name 0) (tree.Lit (pos 1))); line = 8 } ∷ record {
            act =
                acts.Update 2 (tree.Lit (pos 1));
            line = 8;
          } ∷ record {
            act =
                acts.Update 0 (tree.Add (tree.Name 0) (tree.Lit (pos 1)));
            line = 8;
          } ∷ []);
      line = 8;
    } ∷ record {
      name = 8;
      mode = modes.Property;
      params = [];
      steps =
          (record {
            act = acts.HaveVariable 0;
            line = 9;
          } ∷ record { act = acts.Require (tree.Eq (tree.Name 1) (tree.Lit (pos 1))); line = 9 } ∷ record {
            act =
                acts.Require (tree.Eq (tree.Name 2) (tree.Lit (pos 1)));
            line = 9;
          } ∷ record {
            act =
                acts.Assert (tree.Eq (tree.Name 0) (tree.Lit (pos 2)));
            line = 9;
          } ∷ []);
      line = 9;
    } ∷ []);
    invariants = [];
  };
  program = record {
    decls = (p.Word
        (record {
          name = 9;
          len = 1;
          init = 0;
          names = [];
          clauses = (record {
            shape = record { field = (Some 0); key = None; value = (Some (tree.Name 32)) };
            guard = None;
            line = 12;
          } ∷ []);
          fact = None;
          line = 12;
        }) ∷ []);
    start = Some (record {
      form = (record {
        op = 0;
        args = [];
        tokens = [];
        given = (10 ∷ 11 ∷ 12 ∷ []);
        label = None;
        scripts = [];
        line = 13;
      });
      steps = (record {
        what =
            p.Seal 9 0 (record { args = []; tokens = (Some (record { name = 10; at = None }) ∷ []); scripts = [] });
        line =
            13;
      } ∷ record { what = p.Give 3 [] []; line = 13 } ∷ record { what = p.Give 4 [] []; line = 13 } ∷ []);
      line = 13;
    });
    threads = (record {
      name = 3;
      takes =
          (record {
            names = [];
            lines = (record {
              name = 11;
              shape = record { field = (Some 1); key = None; value = (Some (tree.Lit (pos 0))) };
              line = 14;
            } ∷ []);
            facts = [];
            line = 14;
          });
      ends = (record {
        names = [];
        lines =
            (record {
              name = 11;
              shape = record { field = (Some 1); key = None; value = (Some (tree.Lit (pos 1))) };
              line = 14;
            } ∷ []);
        facts = [];
        line = 14;
      });
      body = (c.On (p.Operate (record {
        op = (op.Add (opd.Number 1));
        local = (Some 13);
        word = 9;
        index = (record { operand = (opd.Number 0); scripts = [] });
        label = None;
      })
          (record {
            what = p.Open [] (14 ∷ []) None;
            line = 15;
          } ∷ record {
            what = p.Exchange
                (record {
                  op = 1;
                  args = [];
                  tokens = ((record { name = 14; at = None }) ∷ (record {
                    name = 11;
                    at = None;
                  }) ∷ []);
                  given = [];
                  label = None;
                  scripts = [];
                  line = 15;
                });
            line = 15;
          } ∷ record {
            what = p.Close
                (record { args = []; tokens = (Some (record { name = 14; at = None }) ∷ []); scripts = [] });
            line = 15;
          } ∷ []))
          15 (c.End (record { args = []; scripts = [] }) 16 (c.Brace 17)));
      line = 14;
    } ∷ record {
      name = 4;
      takes = (record {
        names = [];
        lines = (record {
          name = 12;
          shape = record { field = (Some 2); key = None; value = (Some (tree.Lit (pos 0))) };
          line = 18;
        } ∷ []);
        facts = [];
        line = 18;
      });
      ends = (record {
        names = [];
        lines =
            (record {
              name = 12;
              shape = record { field = (Some 2); key = None; value = (Some (tree.Lit (pos 1))) };
              line = 18;
            } ∷ []);
        facts = [];
        line = 18;
      });
      body = (c.On (p.Operate (record {
        op = (op.Add (opd.Number 1));
        local = (Some 13);
        word = 9;
        index = (record { operand = (opd.Number 0); scripts = [] });
        label = None;
      })
          (record {
            what = p.Open [] (14 ∷ []) None;
            line = 19;
          } ∷ record {
            what = p.Exchange
                (record {
                  op = 2;
                  args = [];
                  tokens = ((record { name = 14; at = None }) ∷ (record {
                    name = 12;
                    at = None;
                  }) ∷ []);
                  given = [];
                  label = None;
                  scripts = [];
                  line = 19;
                });
            line = 19;
          } ∷ record {
            what = p.Close
                (record { args = []; tokens = (Some (record { name = 14; at = None }) ∷ []); scripts = [] });
            line = 19;
          } ∷ []))
          19 (c.End (record { args = []; scripts = [] }) 20 (c.Brace 21)));
      line = 18;
    } ∷ []);
    last = (Some (c.On (p.Operate (record {
      op = (op.Load);
      local = (Some 15);
      word = 9;
      index = (record { operand = (opd.Number 0); scripts = [] });
      label = None;
    })
        (record {
          what = p.Open [] (14 ∷ []) None;
          line = 23;
        } ∷ record {
          what = p.Exchange
              (record {
                op = 3;
                args = [];
                tokens = ((record { name = 14; at = None }) ∷ (record {
                  name = 11;
                  at = None;
                }) ∷ (record { name = 12; at = None }) ∷ []);
                given = [];
                label = None;
                scripts = [];
                line = 23;
              });
          line = 23;
        } ∷ record {
          what = p.Close
              (record { args = []; tokens = (Some (record { name = 14; at = None }) ∷ []); scripts = [] });
          line = 23;
        } ∷ []))
        23 (c.On (p.Print 16 (opd.Local 15)) 24 (c.Brace 25))));
  };
}

start : seen count_to_two [] ≡ Some ((0 ∷ []), [], [], (true ∷ true ∷ false ∷ []), ((pos 0) ∷ (pos 0) ∷ (pos 0) ∷ []))
unfolding code_list run unwind held_as stored_at argument token_name does form_fits number_fits map_fits names_only
    form_names_only has_local_terms are_safe guarded_key names form_names needs started_at updated_to act_slot
    presence amount_is_natural freshness enabling safety condition added removed left_by field_in changed_by sort_of
    truth
start = refl

one_added : seen count_to_two (0 ∷ []) ≡ Some
    ((1 ∷ []), [], [], (false ∷ true ∷ false ∷ []), ((pos 1) ∷ (pos 1) ∷ (pos 0) ∷ []))
unfolding code_list run unwind held_as stored_at argument token_name does form_fits number_fits map_fits names_only
    form_names_only has_local_terms are_safe guarded_key names form_names needs started_at updated_to act_slot
    presence amount_is_natural freshness enabling safety condition added removed left_by field_in changed_by sort_of
    truth
one_added = refl

both_added : seen count_to_two (1 ∷ 0 ∷ []) ≡ Some
    ((2 ∷ []), [], [], (false ∷ false ∷ true ∷ []), ((pos 2) ∷ (pos 1) ∷ (pos 1) ∷ []))
unfolding code_list run unwind held_as stored_at argument token_name does form_fits number_fits map_fits names_only
    form_names_only has_local_terms are_safe guarded_key names form_names needs started_at updated_to act_slot
    presence amount_is_natural freshness enabling safety condition added removed left_by field_in changed_by sort_of
    truth
both_added = refl

ended : seen count_to_two (1 ∷ 0 ∷ 2 ∷ 2 ∷ []) ≡ Some
    ((2 ∷ []), [], ((16, 2) ∷ []), (false ∷ false ∷ false ∷ []), ((pos 2) ∷ (pos 1) ∷ (pos 1) ∷ []))
unfolding code_list run unwind held_as stored_at argument token_name does form_fits number_fits map_fits names_only
    form_names_only has_local_terms are_safe guarded_key names form_names needs started_at updated_to act_slot
    presence amount_is_natural freshness enabling safety condition added removed left_by field_in changed_by sort_of
    truth
ended = refl

erased_ended : seen_erased (code_of count_to_two.program) (1 ∷ 0 ∷ 2 ∷ 2 ∷ []) ≡ Some
    ((2 ∷ []), [], ((16, 2) ∷ []), (false ∷ false ∷ false ∷ []))
unfolding code_list run unwind held_as stored_at argument token_name does form_fits number_fits map_fits names_only
    form_names_only has_local_terms are_safe guarded_key names form_names needs started_at updated_to act_slot
    presence amount_is_natural freshness enabling safety condition added removed left_by field_in changed_by sort_of
    truth
erased_ended = refl

-- the logs that the schedule 1, 0, 2, 2 leaves: the second thread finds 0, the first one 1, and the final block 2
first_log : FollowsCode (code_of count_to_two.program) 0 (entry 0 0 (Add 1 1) ∷ [])
unfolding code_list run unwind
first_log = (
  _,
  (
    _,
    refl,
    (
      _,
      record {
        found = 1;
        shared = _;
        line = _;
        rest = _;
        frames = _;
        waits = refl;
        tells = refl;
        goes = refl;
      },
      refl,
    ),
  ),
)
