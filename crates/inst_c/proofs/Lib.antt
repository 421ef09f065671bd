mod HeldHubAsBox
mod HandleAfterCall
