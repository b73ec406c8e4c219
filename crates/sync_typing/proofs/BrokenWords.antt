-- Programs that break the rules A1 to A6 first.
use Rattle.std.specs.Prelude.{refl, pos, [], ◌∷◌, Some, None}
use Rattle.sync_base.specs.declared.stops.Rule.TheVariants as rules
use Rattle.sync_base.specs.declared.strategies.OpMode.TheVariants as modes
use Rattle.sync_base.specs.declared.strategies.Strategy.TheVariants as strategies
use Rattle.sync_terms.specs.Plans as plan
use Rattle.sync_terms.specs.Trees as tree
use Rattle.sync_terms.specs.Trees.{replaced, replaced_in, tree_size, formula_size}
use Rattle.sync_machine.specs.Machines as acts
use Rattle.sync_machine.specs.Machines.{MachineTree}
use Rattle.sync_thread.specs.declared.operands.Opd.TheVariants as opd
use Rattle.sync_thread.specs.declared.operands.WordOp.TheVariants as op
use Rattle.sync_thread.specs.Control as c
use Rattle.sync_thread.specs.Programs as p
use Rattle.sync_thread.specs.Programs.{ProgramTree}
use Rattle.sync_rules.specs.Locality.{names_only, form_names_only}
use Rattle.sync_rules.specs.Obligations.{names, form_names}
use Rattle.sync_rules.specs.Slots.{needs, started_at, updated_to, act_slot}
use Rattle.sync_kernel_facts.specs.Facts.{facts_size}
use Rattle.sync_typing.specs.Laws.{IsBroken}

-- ---- line 12 breaks A1

--   version 1;
--   machine Q { field c: variable; field d: variable;
--   init b() { init c = 0; init d = 0; }
--   transition set(v) { update c = v; } }
--   program {
--   word w[1] = 0 { holds c (0) when value = 0; }
--   start b() () -> (tc, td) {
--   seal w[0] () [tc]; move td -> tok;
--   give a (); }
--   thread a () { tok: d (0); } ends () {  } {
--   x = load w[0] proof { open () [];
--   close () [none]; };
--   end ();
--   }
--   }

a1_machine : MachineTree
a1_machine =
    record {
      name = 0;
      fields = (record { name = 1; strategy = strategies.Variable; line = 2 }
          ∷ record { name = 3; strategy = strategies.Variable; line = 2 } ∷ []);
      ops = (record {
        name = 4;
        mode = modes.Init;
        params = ([]);
        steps = (record { act = acts.Init 0 (tree.Lit (pos 0)); line = 3 }
            ∷ record { act = acts.Init 1 (tree.Lit (pos 0)); line = 3 } ∷ []);
        line = 3;
      }
          ∷ record {
            name = 5;
            mode = modes.Transition;
            params = (88 ∷ []);
            steps = (record { act = acts.Update 0 (tree.Name 88); line = 4 } ∷ []);
            line = 4;
          } ∷ []);
      invariants = ([]);
    }

a1_program : ProgramTree
a1_program =
    record {
      decls =
          (p.Word (record {
            name = 7;
            len = 1;
            init = 0;
            names = ([]);
            clauses = (record {
              shape = record { field = (Some 0); key = None; value = (Some (tree.Lit (pos 0))) };
              guard = (Some (tree.Eq (tree.Name 32) (tree.Lit (pos 0))));
              line = 6;
            } ∷ []);
            fact = None;
            line = 6;
          }) ∷ []);
      start = Some
          (record {
            form =
                (record {
                  op = 0;
                  args = ([]);
                  tokens = ([]);
                  given = (8 ∷ 9 ∷ []);
                  label = None;
                  scripts = ([]);
                  line = 7;
                });
            steps = (record {
              what = p.Seal 7 0
                  (record { args = ([]); tokens = (Some (record { name = 8; at = None }) ∷ []); scripts = ([]) });
              line = 8;
            }
                ∷ record { what = p.Move (record { name = 9; at = None }) 10; line = 8 }
                ∷ record { what = p.Give 11 ([]) ([]); line = 9 } ∷ []);
            line = 7;
          });
      threads = (record {
        name = 11;
        takes = (record {
          names = ([]);
          lines = (record {
            name = 10;
            shape = record { field = (Some 1); key = None; value = (Some (tree.Lit (pos 0))) };
            line = 10;
          } ∷ []);
          facts = ([]);
          line = 10;
        });
        ends = (record { names = ([]); lines = ([]); facts = ([]); line = 10 });
        body = (c.On
            (p.Operate
            (record {
              op = (op.Load);
              local = (Some 12);
              word = 7;
              index = (record { operand = (opd.Number 0); scripts = ([]) });
              label = None;
            })
            (record { what = p.Open ([]) ([]) None; line = 11 }
            ∷ record {
              what = p.Close
                  (record { args = ([]); tokens = (Some (record { name = 13; at = None }) ∷ []); scripts = ([]) });
              line = 12;
            }
            ∷ [])) 11 (c.End (record { args = ([]); scripts = ([]) }) 13 (c.Brace 14)));
        line = 10;
      } ∷ []);
      last = None;
    }

pub breaks_a1 : IsBroken rules.A1
unfolding a1_machine a1_program replaced replaced_in tree_size formula_size names_only form_names_only names form_names needs started_at updated_to act_slot facts_size
breaks_a1 =
    record { machine = a1_machine; program = a1_program; line = 12; breaks = refl }

-- ---- line 8 breaks A2

--   version 1;
--   machine Q { field n: count;
--   init b() { init n = 1; } }
--   proofs { b at 1 by { sum 1 denied; } }
--   program {
--   word w[1] = 1 { holds n (value); holds n (value); }
--   start b() () -> (t) {
--   seal w[0] () [t, t];
--   give a (); }
--   thread a () { } ends () { } { end (); }
--   }

a2_machine : MachineTree
a2_machine =
    record {
      name = 0;
      fields = (record { name = 1; strategy = strategies.Count; line = 2 } ∷ []);
      ops = (record {
        name = 3;
        mode = modes.Init;
        params = ([]);
        steps = (record { act = acts.Init 0 (tree.Lit (pos 1)); line = 3 } ∷ []);
        line = 3;
      } ∷ []);
      invariants = ([]);
    }

a2_program : ProgramTree
a2_program =
    record {
      decls =
          (p.Word (record {
            name = 4;
            len = 1;
            init = 1;
            names = ([]);
            clauses = (record {
              shape = record { field = (Some 0); key = None; value = (Some (tree.Name 32)) };
              guard = None;
              line = 6;
            }
                ∷ record {
                  shape = record { field = (Some 0); key = None; value = (Some (tree.Name 32)) };
                  guard = None;
                  line = 6;
                }
                ∷ []);
            fact = None;
            line = 6;
          }) ∷ []);
      start = Some
          (record {
            form =
                (record {
                  op = 0;
                  args = ([]);
                  tokens = ([]);
                  given = (5 ∷ []);
                  label = None;
                  scripts = ([]);
                  line = 7;
                });
            steps = (record {
              what = p.Seal 4 0
                  (record {
                    args = ([]);
                    tokens = (Some (record { name = 5; at = None }) ∷ Some (record { name = 5; at = None }) ∷ []);
                    scripts = ([]);
                  });
              line = 8;
            } ∷ record { what = p.Give 6 ([]) ([]); line = 9 } ∷ []);
            line = 7;
          });
      threads = (record {
        name = 6;
        takes = (record { names = ([]); lines = ([]); facts = ([]); line = 10 });
        ends = (record { names = ([]); lines = ([]); facts = ([]); line = 10 });
        body = (c.End (record { args = ([]); scripts = ([]) }) 10 (c.Brace 10));
        line = 10;
      } ∷ []);
      last = None;
    }

pub breaks_a2 : IsBroken rules.A2
unfolding a2_machine a2_program replaced replaced_in tree_size formula_size names_only form_names_only names form_names needs started_at updated_to act_slot facts_size
breaks_a2 =
    record { machine = a2_machine; program = a2_program; line = 8; breaks = refl }

-- ---- line 8 breaks A3

--   version 1;
--   machine Q { field c: variable; field d: variable;
--   init b() { init c = 0; init d = 0; }
--   transition set(v) { update c = v; } }
--   program {
--   word w[1] = 1 { holds c (value); }
--   start b() () -> (tc, td) {
--   seal w[0] () [tc];
--   move td -> tok; give a (); }
--   thread a () { tok: d (0); } ends () { } {
--   print x 1;
--   end (); }
--   }

a3_machine : MachineTree
a3_machine =
    record {
      name = 0;
      fields = (record { name = 1; strategy = strategies.Variable; line = 2 }
          ∷ record { name = 3; strategy = strategies.Variable; line = 2 } ∷ []);
      ops = (record {
        name = 4;
        mode = modes.Init;
        params = ([]);
        steps = (record { act = acts.Init 0 (tree.Lit (pos 0)); line = 3 }
            ∷ record { act = acts.Init 1 (tree.Lit (pos 0)); line = 3 } ∷ []);
        line = 3;
      }
          ∷ record {
            name = 5;
            mode = modes.Transition;
            params = (88 ∷ []);
            steps = (record { act = acts.Update 0 (tree.Name 88); line = 4 } ∷ []);
            line = 4;
          } ∷ []);
      invariants = ([]);
    }

a3_program : ProgramTree
a3_program =
    record {
      decls =
          (p.Word (record {
            name = 7;
            len = 1;
            init = 1;
            names = ([]);
            clauses = (record {
              shape = record { field = (Some 0); key = None; value = (Some (tree.Name 32)) };
              guard = None;
              line = 6;
            } ∷ []);
            fact = None;
            line = 6;
          }) ∷ []);
      start = Some
          (record {
            form =
                (record {
                  op = 0;
                  args = ([]);
                  tokens = ([]);
                  given = (8 ∷ 9 ∷ []);
                  label = None;
                  scripts = ([]);
                  line = 7;
                });
            steps = (record {
              what = p.Seal 7 0
                  (record { args = ([]); tokens = (Some (record { name = 8; at = None }) ∷ []); scripts = ([]) });
              line = 8;
            }
                ∷ record { what = p.Move (record { name = 9; at = None }) 10; line = 9 }
                ∷ record { what = p.Give 11 ([]) ([]); line = 9 } ∷ []);
            line = 7;
          });
      threads = (record {
        name = 11;
        takes = (record {
          names = ([]);
          lines = (record {
            name = 10;
            shape = record { field = (Some 1); key = None; value = (Some (tree.Lit (pos 0))) };
            line = 10;
          } ∷ []);
          facts = ([]);
          line = 10;
        });
        ends = (record { names = ([]); lines = ([]); facts = ([]); line = 10 });
        body = (c.On (p.Print 12 (opd.Number 1)) 11 (c.End (record { args = ([]); scripts = ([]) }) 12 (c.Brace 12)));
        line = 10;
      } ∷ []);
      last = None;
    }

pub breaks_a3 : IsBroken rules.A3
unfolding a3_machine a3_program replaced replaced_in tree_size formula_size names_only form_names_only names form_names needs started_at updated_to act_slot facts_size
breaks_a3 =
    record { machine = a3_machine; program = a3_program; line = 8; breaks = refl }

-- ---- line 13 breaks A4

--   version 1;
--   machine Q { field c: variable; field d: variable;
--   init b() { init c = 0; init d = 0; }
--   transition set(v) { update c = v; } }
--   program {
--   word w[1] = 0 { fact value <= 3; }
--   start b() () -> (tc, td) {
--   seal w[0] () [] by { same; };
--   move td -> tok; give a (); }
--   thread a () { tok: d (0); } ends () { } {
--   store w[0] = 4 proof {
--   open () [] @f;
--   close () []; };
--   end (); }
--   }

a4_machine : MachineTree
a4_machine =
    record {
      name = 0;
      fields = (record { name = 1; strategy = strategies.Variable; line = 2 }
          ∷ record { name = 3; strategy = strategies.Variable; line = 2 } ∷ []);
      ops = (record {
        name = 4;
        mode = modes.Init;
        params = ([]);
        steps = (record { act = acts.Init 0 (tree.Lit (pos 0)); line = 3 }
            ∷ record { act = acts.Init 1 (tree.Lit (pos 0)); line = 3 } ∷ []);
        line = 3;
      }
          ∷ record {
            name = 5;
            mode = modes.Transition;
            params = (88 ∷ []);
            steps = (record { act = acts.Update 0 (tree.Name 88); line = 4 } ∷ []);
            line = 4;
          } ∷ []);
      invariants = ([]);
    }

a4_program : ProgramTree
a4_program =
    record {
      decls =
          (p.Word (record {
            name = 7;
            len = 1;
            init = 0;
            names = ([]);
            clauses = ([]);
            fact = (Some (tree.Le (tree.Name 32) (tree.Lit (pos 3))));
            line = 6;
          }) ∷ []);
      start = Some
          (record {
            form =
                (record {
                  op = 0;
                  args = ([]);
                  tokens = ([]);
                  given = (8 ∷ 9 ∷ []);
                  label = None;
                  scripts = ([]);
                  line = 7;
                });
            steps = (record {
              what = p.Seal 7 0
                  (record {
                    args = ([]);
                    tokens = ([]);
                    scripts = (record { plan = plan.Same 8 (plan.End 8); line = 8 } ∷ []);
                  });
              line = 8;
            } ∷ record { what = p.Move (record { name = 9; at = None }) 10; line = 9 }
                ∷ record { what = p.Give 11 ([]) ([]); line = 9 } ∷ []);
            line = 7;
          });
      threads = (record {
        name = 11;
        takes = (record {
          names = ([]);
          lines = (record {
            name = 10;
            shape = record { field = (Some 1); key = None; value = (Some (tree.Lit (pos 0))) };
            line = 10;
          } ∷ []);
          facts = ([]);
          line = 10;
        });
        ends = (record { names = ([]); lines = ([]); facts = ([]); line = 10 });
        body = (c.On
            (p.Operate
            (record {
              op = (op.Store (opd.Number 4));
              local = None;
              word = 7;
              index = (record { operand = (opd.Number 0); scripts = ([]) });
              label = None;
            })
            (record { what = p.Open ([]) ([]) (Some 12); line = 12 }
            ∷ record { what = p.Close (record { args = ([]); tokens = ([]); scripts = ([]) }); line = 13 } ∷ [])) 11
            (c.End (record { args = ([]); scripts = ([]) }) 14 (c.Brace 14)));
        line = 10;
      } ∷ []);
      last = None;
    }

pub breaks_a4 : IsBroken rules.A4
unfolding a4_machine a4_program replaced replaced_in tree_size formula_size names_only form_names_only names form_names needs started_at updated_to act_slot facts_size
breaks_a4 =
    record { machine = a4_machine; program = a4_program; line = 13; breaks = refl }

-- ---- line 12 breaks A5

--   version 1;
--   machine Q { field c: variable; field d: variable;
--   init b() { init c = 0; init d = 0; }
--   transition set(v) { update c = v; } }
--   program {
--   word w[2] = 0 { }
--   start b() () -> (tc, td) {
--
--   move td -> tok; give a (); }
--   thread a () { tok: d (0); } ends () { } {
--   x = load w[1];
--   y = load w[2];
--   end (); }
--   }

a5_machine : MachineTree
a5_machine =
    record {
      name = 0;
      fields = (record { name = 1; strategy = strategies.Variable; line = 2 }
          ∷ record { name = 3; strategy = strategies.Variable; line = 2 } ∷ []);
      ops = (record {
        name = 4;
        mode = modes.Init;
        params = ([]);
        steps = (record { act = acts.Init 0 (tree.Lit (pos 0)); line = 3 }
            ∷ record { act = acts.Init 1 (tree.Lit (pos 0)); line = 3 } ∷ []);
        line = 3;
      }
          ∷ record {
            name = 5;
            mode = modes.Transition;
            params = (88 ∷ []);
            steps = (record { act = acts.Update 0 (tree.Name 88); line = 4 } ∷ []);
            line = 4;
          } ∷ []);
      invariants = ([]);
    }

a5_program : ProgramTree
a5_program =
    record {
      decls =
          (p.Word (record { name = 7; len = 2; init = 0; names = ([]); clauses = ([]); fact = None; line = 6 }) ∷ []);
      start = Some
          (record {
            form =
                (record {
                  op = 0;
                  args = ([]);
                  tokens = ([]);
                  given = (8 ∷ 9 ∷ []);
                  label = None;
                  scripts = ([]);
                  line = 7;
                });
            steps = (record { what = p.Move (record { name = 9; at = None }) 10; line = 9 }
                ∷ record { what = p.Give 11 ([]) ([]); line = 9 } ∷ []);
            line = 7;
          });
      threads = (record {
        name = 11;
        takes = (record {
          names = ([]);
          lines = (record {
            name = 10;
            shape = record { field = (Some 1); key = None; value = (Some (tree.Lit (pos 0))) };
            line = 10;
          } ∷ []);
          facts = ([]);
          line = 10;
        });
        ends = (record { names = ([]); lines = ([]); facts = ([]); line = 10 });
        body = (c.On
            (p.Operate
            (record {
              op = (op.Load);
              local = (Some 12);
              word = 7;
              index = (record { operand = (opd.Number 1); scripts = ([]) });
              label = None;
            })
            (record { what = p.Still []; line = 11 } ∷ [])) 11
            (c.On (p.Operate
            (record {
              op = (op.Load);
              local = (Some 13);
              word = 7;
              index = (record { operand = (opd.Number 2); scripts = ([]) });
              label = None;
            })
            (record { what = p.Still []; line = 12 } ∷ [])) 12
            (c.End (record { args = ([]); scripts = ([]) }) 13 (c.Brace 13))));
        line = 10;
      } ∷ []);
      last = None;
    }

pub breaks_a5 : IsBroken rules.A5
unfolding a5_machine a5_program replaced replaced_in tree_size formula_size names_only form_names_only names form_names needs started_at updated_to act_slot facts_size
breaks_a5 =
    record { machine = a5_machine; program = a5_program; line = 12; breaks = refl }

-- ---- line 11 breaks A6

--   version 1;
--   machine Q { field c: variable; field d: variable;
--   init b() { init c = 0; init d = 0; }
--   transition set(v) { update c = v; } }
--   program {
--   word w[1] = 0 { holds c (value); }
--   start b() () -> (tc, td) {
--   seal w[0] () [tc];
--   move td -> tok; give a (); }
--   thread a () { tok: d (0); } ends () { } {
--   store w[0] = 5;
--   end (); }
--   }

a6_machine : MachineTree
a6_machine =
    record {
      name = 0;
      fields = (record { name = 1; strategy = strategies.Variable; line = 2 }
          ∷ record { name = 3; strategy = strategies.Variable; line = 2 } ∷ []);
      ops = (record {
        name = 4;
        mode = modes.Init;
        params = ([]);
        steps = (record { act = acts.Init 0 (tree.Lit (pos 0)); line = 3 }
            ∷ record { act = acts.Init 1 (tree.Lit (pos 0)); line = 3 } ∷ []);
        line = 3;
      }
          ∷ record {
            name = 5;
            mode = modes.Transition;
            params = (88 ∷ []);
            steps = (record { act = acts.Update 0 (tree.Name 88); line = 4 } ∷ []);
            line = 4;
          } ∷ []);
      invariants = ([]);
    }

a6_program : ProgramTree
a6_program =
    record {
      decls =
          (p.Word (record {
            name = 7;
            len = 1;
            init = 0;
            names = ([]);
            clauses = (record {
              shape = record { field = (Some 0); key = None; value = (Some (tree.Name 32)) };
              guard = None;
              line = 6;
            } ∷ []);
            fact = None;
            line = 6;
          }) ∷ []);
      start = Some
          (record {
            form =
                (record {
                  op = 0;
                  args = ([]);
                  tokens = ([]);
                  given = (8 ∷ 9 ∷ []);
                  label = None;
                  scripts = ([]);
                  line = 7;
                });
            steps = (record {
              what = p.Seal 7 0
                  (record { args = ([]); tokens = (Some (record { name = 8; at = None }) ∷ []); scripts = ([]) });
              line = 8;
            }
                ∷ record { what = p.Move (record { name = 9; at = None }) 10; line = 9 }
                ∷ record { what = p.Give 11 ([]) ([]); line = 9 } ∷ []);
            line = 7;
          });
      threads = (record {
        name = 11;
        takes = (record {
          names = ([]);
          lines = (record {
            name = 10;
            shape = record { field = (Some 1); key = None; value = (Some (tree.Lit (pos 0))) };
            line = 10;
          } ∷ []);
          facts = ([]);
          line = 10;
        });
        ends = (record { names = ([]); lines = ([]); facts = ([]); line = 10 });
        body = (c.On
            (p.Operate
            (record {
              op = (op.Store (opd.Number 5));
              local = None;
              word = 7;
              index = (record { operand = (opd.Number 0); scripts = ([]) });
              label = None;
            })
            (record { what = p.Still []; line = 11 } ∷ [])) 11
            (c.End (record { args = ([]); scripts = ([]) }) 12 (c.Brace 12)));
        line = 10;
      } ∷ []);
      last = None;
    }

pub breaks_a6 : IsBroken rules.A6
unfolding a6_machine a6_program replaced replaced_in tree_size formula_size names_only form_names_only names form_names needs started_at updated_to act_slot facts_size
breaks_a6 =
    record { machine = a6_machine; program = a6_program; line = 11; breaks = refl }
